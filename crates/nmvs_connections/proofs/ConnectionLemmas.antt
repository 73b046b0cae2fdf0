-- How a connection's steps follow each other.
use Rattle.std.proofs.Common.{◌≡◌, ◌⊎◌, inl, inr, ℕ, List, [], ◌++◌, Option, Some, None, length, take, drop, refl, sym, ap, subst, ◌∙◌}
use Rattle.std.proofs.lemmas.List.{append-nil, append_assoc, take-append-drop}
use Rattle.nmvs_messages.specs.declared.ask.Ask.{Ask}
use Rattle.nmvs_messages.specs.declared.answer.Answer.{Answer}
use Rattle.nmvs_messages.specs.declared.end.End.{End}
use Rattle.nmvs_messages.specs.declared.peer.Peer.{Peer}
use Rattle.nmvs_messages.specs.declared.withheld.Withheld.{Withheld}
use Rattle.nmvs_stream.specs.InputLines.{input_lines, lines_after, unfinished_line}
use Rattle.nmvs_stream.proofs.LinesOfPieces.{lines_after-append}
use Rattle.nmvs_connections.specs.declared.next.Next.{Next}
use Rattle.nmvs_connections.specs.declared.socket.Moved.{Moved}
use Rattle.nmvs_connections.specs.declared.socket.Moved.TheVariants as moved
use Rattle.nmvs_connections.specs.Peers.{PeerState, IsLater, Rests, StaysPeer}
use Rattle.nmvs_connections.specs.Replies.{SessionState, TellsPart, replied}
use Rattle.nmvs_connections.specs.Streams.{Reads, Writes}
use Rattle.nmvs_connections.specs.Traffic.{Traffic}
use Rattle.nmvs_connections.specs.Turns.{ConnectionSteps, Kept, LinesStep, LinesTaken, TakesBy, TellsOwn}

pub kept_same : (a b : SessionState) → b ≡ a → Kept a b
kept_same a b same = record {
  fed = ap (λ (t : SessionState). t.fed) same;
  text = ap replied same;
  ended = ap (λ (t : SessionState). t.ended) same;
  first = ap (λ (t : SessionState). t.first) same;
  waiting = ap (λ (t : SessionState). t.waiting) same;
  awaited = ap (λ (t : SessionState). t.awaited) same;
}

pub kept_twice : (a b c : SessionState) → Kept a b → Kept b c → Kept a c
kept_twice a b c k l = record { fed = l.fed ∙ k.fed; text = l.text ∙ k.text; ended = l.ended ∙ k.ended; first = l.first ∙ k.first; waiting = l.waiting ∙ k.waiting; awaited = l.awaited ∙ k.awaited }

-- some of the unsent bytes were sent
pub kept_sent : (a b : SessionState) (count : ℕ) → b.fed ≡ a.fed → b.sent ≡ a.sent ++ take count a.unsent → b.unsent ≡ drop count a.unsent → b.listed ≡ a.listed → b.ended ≡ a.ended → b.first ≡ a.first → b.waiting ≡ a.waiting → b.awaited ≡ a.awaited → Kept a b
kept_sent a b count fed sent unsent listed ended first waiting awaited = record {
  fed = fed;
  text = (λ i. (sent i ++ unsent i) ++ listed i)
      ∙ ap (λ (t : List ℕ). t ++ a.listed) (append_assoc a.sent (take count a.unsent) (drop count a.unsent) ∙ ap (λ (t : List ℕ). a.sent ++ t) (take-append-drop count a.unsent));
  ended = ended;
  first = first;
  waiting = waiting;
  awaited = awaited;
}

pub rests_later : (a b : PeerState) → Rests a b → IsLater a b
rests_later a b same = record { proxy = same.0; peer = λ peer known. same.1 ∙ known; more = []; received = same.2 ∙ sym (append-nil a.stream.received) }

pub later_then : (a b c : PeerState) → IsLater a b → IsLater b c → IsLater a c
later_then a b c first second = record {
  proxy = second.proxy ∙ first.proxy;
  peer = λ peer known. second.peer peer (first.peer peer known);
  more = first.more ++ second.more;
  received = second.received ∙ ap (λ (l : List ℕ). l ++ second.more) first.received ∙ append_assoc a.stream.received first.more second.more;
}

-- bytes were read, or let go, or none came
reads_more : (t t' : Traffic) (buffer : List ℕ) (m : Moved) → Reads t t' buffer m → (more : List ℕ) × (t'.received ≡ t.received ++ more)
reads_more t t' buffer (moved.Bytes count) reads = (take count buffer, ap (λ (s : Traffic). s.received) reads.1)
reads_more t t' buffer moved.Blocked same = ([], ap (λ (s : Traffic). s.received) same ∙ sym (append-nil t.received))
reads_more t t' buffer moved.Over same = ([], ap (λ (s : Traffic). s.received) same ∙ sym (append-nil t.received))

pub reads_later : (a b : PeerState) (buffer : List ℕ) (m : Moved) → b.proxy ≡ a.proxy → StaysPeer a.peer b.peer → Reads a.stream b.stream buffer m → IsLater a b
reads_later a b buffer m proxy peer reads = let more = reads_more a.stream b.stream buffer m reads in record { proxy = proxy; peer = peer; more = more.0; received = more.1 }

pub discards_later : (a b : PeerState) (buffer : List ℕ) (m : Moved) → b.proxy ≡ a.proxy → b.peer ≡ a.peer → Reads a.stream b.stream buffer m ⊎ (b.stream ≡ a.stream) → IsLater a b
discards_later a b buffer m proxy peer (inl reads) = reads_later a b buffer m proxy (λ _ known. peer ∙ known) reads
discards_later a b buffer m proxy peer (inr same) = rests_later a b (proxy, peer, ap (λ (s : Traffic). s.received) same)

-- the peer was not known
-- the peer was not known
pub named_later : (a b : PeerState) → a.peer ≡ None → b.proxy ≡ a.proxy → b.stream.received ≡ a.stream.received → IsLater a b
named_later a b none proxy same = record {
  proxy = proxy;
  peer = λ peer known. let both : None ≡ Some peer = sym none ∙ known in absurd (cc);
  more = [];
  received = same ∙ sym (append-nil a.stream.received);
}

pub writes_received : (t t' : Traffic) (bytes : List ℕ) (m : Moved) → Writes t t' bytes m → t'.received ≡ t.received
writes_received t t' bytes (moved.Bytes count) writes = ap (λ (s : Traffic). s.received) writes.1
writes_received t t' bytes moved.Blocked same = ap (λ (s : Traffic). s.received) same
writes_received t t' bytes moved.Over same = ap (λ (s : Traffic). s.received) same

-- no lines are taken, whoever the peer is
none_by : {D : Type 0} (takes : D → Peer → Ask → Withheld → D → Type 0) (peer : Option Peer) (old new : D) → new ≡ old → TakesBy takes peer old [] [] new
none_by takes None old new same = (refl, refl, same)
none_by takes (Some peer) old new same = same

-- no lines were taken
pub lines_kept : {D : Type 0} (takes : D → Peer → Ask → Withheld → D → Type 0) (peer : Option Peer) (old new : D) (withheld withheld' : List Withheld) (a b : SessionState)
    → new ≡ old → withheld' ≡ withheld → Kept a b → LinesStep takes peer old new withheld withheld' a b
lines_kept takes peer old new withheld withheld' a b same none kept =
    record { lines = []; held = []; behind = none ∙ sym (append-nil withheld); desk = none_by takes peer old new same; goes = inl (kept, refl, refl) }

pub steps_kept : {D : Type 0} (takes : D → Peer → Ask → Withheld → D → Type 0) (desk : D) (withheld : List Withheld) (next : Next) (a b : PeerState) → Kept a.session b.session → IsLater a b → ConnectionSteps takes desk desk withheld withheld next a b
unfolding lines_kept
steps_kept takes desk withheld next a b kept later =
    record { step = lines_kept takes a.peer desk desk withheld withheld a.session b.session refl refl kept; waits = inl (kept, refl, refl); later = later }

-- nothing was done with the session
pub steps_idle : {D : Type 0} (takes : D → Peer → Ask → Withheld → D → Type 0) (desk : D) (withheld : List Withheld) (next : Next) (a b : PeerState)
    → b.session ≡ a.session → IsLater a b → ConnectionSteps takes desk desk withheld withheld next a b
steps_idle takes desk withheld next a b same later = steps_kept takes desk withheld next a b (kept_same a.session b.session same) later

pub steps_resting : {D : Type 0} (takes : D → Peer → Ask → Withheld → D → Type 0) (desk : D) (withheld : List Withheld) (next : Next) (a b : PeerState)
    → b.session ≡ a.session → Rests a b → ConnectionSteps takes desk desk withheld withheld next a b
steps_resting takes desk withheld next a b same rests = steps_idle takes desk withheld next a b same (rests_later a b rests)

-- replies were sent before
taken_later : (lines : List (List ℕ)) (held : List Withheld) (first : ℕ) (a b c : SessionState) → Kept a b → LinesTaken lines held first b c → LinesTaken lines held first a c
taken_later lines held first a b c k l = record {
  lines_are = l.lines_are ∙ ap (λ (f : List ℕ). input_lines f ++ lines) k.fed;
  text = l.text ∙ k.text;
  open_still = sym k.ended ∙ l.open_still;
  told = sym k.waiting ∙ l.told;
  starts = l.starts;
  waits = l.waits;
  shows = l.shows;
  sound = l.sound;
}

pub steps_later : {D : Type 0} (takes : D → Peer → Ask → Withheld → D → Type 0) (old new : D) (withheld withheld' : List Withheld) (next : Next) (a b c : PeerState)
    → Kept a.session b.session → Rests a b → ConnectionSteps takes old new withheld withheld' next b c → ConnectionSteps takes old new withheld withheld' next a c
steps_later takes old new withheld withheld' next a b c k rests s =
    let t = s.step in record {
      step = record {
        lines = t.lines;
        held = t.held;
        behind = t.behind;
        desk = subst (λ (p : Option Peer). TakesBy takes p old t.lines t.held new) rests.1 t.desk;
        goes = elim t.goes [
          | inl kept ↦ inl (kept_twice a.session b.session c.session k kept.0, kept.1, kept.2)
          | inr took ↦ inr (taken_later t.lines t.held (length withheld) a.session b.session c.session k took)
        ];
      };
      waits = elim s.waits [ inl kept ↦ inl (kept_twice a.session b.session c.session k kept.0, kept.1, kept.2) | inr waits ↦ inr waits ];
      later = later_then a b c (rests_later a b rests) s.later;
    }

-- the lines of a session that goes on
pub lines_more : (fed bytes : List ℕ) → input_lines (fed ++ bytes) ≡ input_lines fed ++ lines_after (unfinished_line fed) bytes
lines_more fed bytes = lines_after-append [] fed bytes

-- a session turned its part of the released answers into replies
pub tells_of : (released : List Answer) (a b : SessionState) → (b.fed ≡ a.fed) × (b.sent ≡ a.sent) → b.waiting ≡ 0
    → (text : List ℕ) × (b.unsent ++ b.listed ≡ (a.unsent ++ a.listed) ++ text) × TellsPart a.first a.waiting released a.awaited text a.ended b.ended → TellsOwn released a b
tells_of released a b same told t = record {
  fed = same.0;
  text = t.0;
  replies = append_assoc b.sent b.unsent b.listed ∙ (λ i. same.1 i ++ t.1 i) ∙ sym (append_assoc a.sent (a.unsent ++ a.listed) t.0)
      ∙ ap (λ (x : List ℕ). x ++ t.0) (sym (append_assoc a.sent a.unsent a.listed));
  tells = t.2;
  told = told;
}

-- it did so, and then perhaps sent
pub tells_sent : (a b c : SessionState) (released : List Answer) → TellsOwn released a b → Kept b c → TellsOwn released a c
tells_sent a b c released t k = record {
  fed = k.fed ∙ t.fed;
  text = t.text;
  replies = k.text ∙ t.replies;
  tells = subst (λ (e : Option End). TellsPart a.first a.waiting released a.awaited t.text a.ended e) (sym k.ended) t.tells;
  told = k.waiting ∙ t.told;
}
