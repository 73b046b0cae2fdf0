-- How the lines of a connection stay those that its stream carries, from one step to the next.
use Rattle.std.proofs.Common.{◌≡◌, ◌⊎◌, inl, inr, ℕ, Bool, true, false, List, [], ◌++◌, length, Option, Some, None, take, drop, codes, arith, refl, sym, ap, subst, ◌∙◌}
use Rattle.std.proofs.lemmas.List.{append-nil, append_assoc, length-append, take-append-drop}
use Rattle.nmvs_messages.specs.declared.peer.NameOf.{NameOf}
use Rattle.nmvs_messages.specs.declared.peer.Peer.{Peer}
use Rattle.nmvs_connections.specs.declared.peer_session.Stage.{Stage}
use Rattle.nmvs_connections.specs.declared.peer_session.Stage.TheVariants as stages
use Rattle.nmvs_connections.specs.declared.line_stream.Http.{Http}
use Rattle.nmvs_connections.specs.Traffic.{Traffic}
use Rattle.nmvs_connections.specs.LineStreams.{AnswersOver, Behind, EndsIn, IsBehind, before_of}
use Rattle.nmvs_connections.specs.Peers.{Holds, NamesPeer}
use Rattle.std.specs.Prelude.{IfSome}
use Rattle.nmvs_connections.specs.Streams.{Reads, Writes}
use Rattle.nmvs_connections.specs.Replies.{Leaves, Replies}
use Rattle.nmvs_messages.specs.declared.answer.Answer.{Answer}
use Rattle.nmvs_messages.specs.declared.end.End.{End}
use Rattle.nmvs_messages.specs.declared.end.End.TheVariants as ends
use Rattle.nmvs_protocol.specs.Session.{session_text}
use Rattle.nmvs_stream.specs.InputLines.{input_lines, lines_after}
use Rattle.nmvs_connections.specs.declared.socket.Moved.{Moved}
use Rattle.nmvs_connections.specs.declared.socket.Moved.TheVariants as moved
use Rattle.nmvs_connections.specs.ProxyHeader.{ReadsProxyHeader}
use Rattle.nmvs_connections.specs.declared.proxy_header.ProxyHeader.TheVariants as proxy_headers
use Rattle.nmvs_connections.proofs.PeerSteps.{holds_lingering, holds_named, holds_notice, holds_over, holds_quiet, holds_read, holds_sent, holds_taken, nothing, quiet}

-- the bytes of a peer's session are those of its header, its lines and its replies, over HTTP or not
abbrev pub Stands : Option NameOf → Option Peer → Stage → Traffic → Option (List ℕ) → List ℕ → List ℕ → List ℕ → Type 0
Stands proxy peer stage t before fed replies unread = Holds proxy peer stage t.received t.sent fed replies unread × Behind before peer t.received fed unread stage

-- the stream carries the same
pub stands_same : {proxy : Option NameOf} {peer : Option Peer} {stage : Stage} {fed replies unread : List ℕ} (t t' : Traffic) (before before' : Option (List ℕ)) → t' ≡ t → before' ≡ before
    → Stands proxy peer stage t before fed replies unread → Stands proxy peer stage t' before' fed replies unread
stands_same {proxy} {peer} {stage} {fed} {replies} {unread} t t' before before' same kept s =
    subst (λ (b : Option (List ℕ)). Stands proxy peer stage t' b fed replies unread) (sym kept) (subst (λ (u : Traffic). Stands proxy peer stage u before fed replies unread) (sym same) s)

behind_read : (before : Option (List ℕ)) (peer : Option Peer) (received fed unread more : List ℕ) (stage : Stage) → Behind before peer received fed unread stage → Behind before peer (received ++ more) fed (unread ++ more) stage
behind_read None peer received fed unread more stage b = tt
behind_read (Some before) None received fed unread more stage b = b
behind_read (Some before) (Some peer) received fed unread more stage b = record {
  rest = b.rest ++ more;
  received_is = ap (λ (t : List ℕ). t ++ more) b.received_is ∙ append_assoc before (fed ++ b.rest) more ∙ ap (λ (t : List ℕ). before ++ t) (append_assoc fed b.rest more);
  left = λ serving. ap (λ (t : List ℕ). t ++ more) (b.left serving);
}

-- bytes are let go once no lines are taken
behind_let_go : (before : Option (List ℕ)) (peer : Option Peer) (received fed unread more : List ℕ) (stage : Stage) → stage ≡ stages.Lingering → Behind before peer received fed unread stage
    → Behind before peer (received ++ more) fed unread stage
behind_let_go None peer received fed unread more stage lingers b = tt
behind_let_go (Some before) None received fed unread more stage lingers b = b
behind_let_go (Some before) (Some peer) received fed unread more stage lingers b = record {
  rest = b.rest ++ more;
  received_is = ap (λ (t : List ℕ). t ++ more) b.received_is ∙ append_assoc before (fed ++ b.rest) more ∙ ap (λ (t : List ℕ). before ++ t) (append_assoc fed b.rest more);
  left = λ serving. absurd (cc (serving, lingers));
}

-- no more lines are taken
behind_over : (before : Option (List ℕ)) (peer : Option Peer) (received fed unread unread' : List ℕ) (stage stage' : Stage) → (stage' ≡ stages.Serving → ⊥) → Behind before peer received fed unread stage
    → Behind before peer received fed unread' stage'
behind_over None peer received fed unread unread' stage stage' over b = tt
behind_over (Some before) None received fed unread unread' stage stage' over b = b
behind_over (Some before) (Some peer) received fed unread unread' stage stage' over b = record { rest = b.rest; received_is = b.received_is; left = λ serving. absurd (over serving) }

-- some of the unread bytes were taken
behind_taken : (before : Option (List ℕ)) (peer : Option Peer) (received fed unread : List ℕ) (stage : Stage) (n : ℕ) → stage ≡ stages.Serving → Behind before peer received fed unread stage
    → Behind before peer received (fed ++ take n unread) (drop n unread) stage
behind_taken None peer received fed unread stage n serving b = tt
behind_taken (Some before) None received fed unread stage n serving b = b
behind_taken (Some before) (Some peer) received fed unread stage n serving b =
    let split : b.rest ≡ take n unread ++ drop n unread = b.left serving ∙ sym (take-append-drop n unread) in record {
      rest = drop n unread;
      received_is = b.received_is ∙ ap (λ (t : List ℕ). before ++ (fed ++ t)) split ∙ ap (λ (t : List ℕ). before ++ t) (sym (append_assoc fed (take n unread) (drop n unread)));
      left = λ _. refl;
    }

-- more bytes were read, and are unread
pub stands_read : {proxy : Option NameOf} {peer : Option Peer} {stage : Stage} {fed replies unread : List ℕ} (t t' : Traffic) (before before' : Option (List ℕ)) (more : List ℕ)
    → t' ≡ record t { received = t.received ++ more } → before' ≡ before
    → Stands proxy peer stage t before fed replies unread → Stands proxy peer stage t' before' fed replies (unread ++ more)
stands_read {proxy} {peer} {stage} {fed} {replies} {unread} t t' before before' more reads kept s =
    stands_same (record t { received = t.received ++ more }) t' before before' reads kept (holds_read more s.0, behind_read before peer t.received fed unread more stage s.1)

-- some of the unread bytes were taken
pub stands_taken : (proxy : Option NameOf) (peer : Option Peer) {stage : Stage} {fed fed' replies replies' unread unread' : List ℕ} (t : Traffic) (before : Option (List ℕ)) (n : ℕ) → (peer ≡ None → n ≡ 0) → stage ≡ stages.Serving
    → fed' ≡ fed ++ take n unread → replies' ≡ replies → unread' ≡ drop n unread → Stands proxy peer stage t before fed replies unread → Stands proxy peer stage t before fed' replies' unread'
stands_taken proxy peer {stage = stage} {fed = fed} {fed' = fed'} {replies = replies} {replies' = replies'} {unread = unread} {unread' = unread'} t before n known serving feeds same left s = (
  holds_taken proxy peer n known serving feeds same left s.0,
  subst (λ (f : List ℕ). Behind before peer t.received f unread' stage) (sym feeds)
      (subst (λ (u : List ℕ). Behind before peer t.received (fed ++ take n unread) u stage) (sym left) (behind_taken before peer t.received fed unread stage n serving s.1)),
)

-- no more lines are taken, and the unread bytes are discarded
pub stands_over : {proxy : Option NameOf} {peer : Option Peer} {stage : Stage} {fed replies unread : List ℕ} (t : Traffic) (before : Option (List ℕ)) (unread' : List ℕ) → stage ≡ stages.Serving
    → Stands proxy peer stage t before fed replies unread → Stands proxy peer stages.Ending t before fed replies unread'
stands_over {peer = peer} {stage = stage} {fed = fed} {unread = unread} t before unread' serving s =
    (holds_over unread' serving s.0, behind_over before peer t.received fed unread unread' stage stages.Ending (λ not. absurd (cc (not))) s.1)

-- replies were sent
pub stands_sent : {proxy : Option NameOf} {peer : Option Peer} {stage : Stage} {fed replies unread : List ℕ} (t t' : Traffic) (before before' : Option (List ℕ)) (more : List ℕ) → (stage ≡ stages.Lingering → ⊥)
    → t' ≡ record t { sent = t.sent ++ more } → before' ≡ before → Stands proxy peer stage t before fed replies unread → Stands proxy peer stage t' before' fed (replies ++ more) unread
stands_sent t t' before before' more goes_on sends kept s = stands_same (record t { sent = t.sent ++ more }) t' before before' sends kept (holds_sent more goes_on s.0, s.1)

-- the connection lingers
pub stands_quiet : {proxy : Option NameOf} {peer : Option Peer} {stage : Stage} {fed replies unread : List ℕ} (t : Traffic) (before : Option (List ℕ)) → stage ≡ stages.Ending
    → Stands proxy peer stage t before fed replies unread → Stands proxy peer stages.Lingering t before fed replies unread
stands_quiet {peer = peer} {stage = stage} {fed = fed} {unread = unread} t before ends s =
    (holds_quiet ends s.0, behind_over before peer t.received fed unread unread stage stages.Lingering (λ not. absurd (cc (not))) s.1)

-- bytes are let go while the connection lingers
pub stands_lingering : {proxy : Option NameOf} {peer : Option Peer} {stage : Stage} {fed replies unread : List ℕ} (t t' : Traffic) (before before' : Option (List ℕ)) (more : List ℕ) → stage ≡ stages.Lingering
    → t' ≡ record t { received = t.received ++ more } → before' ≡ before → Stands proxy peer stage t before fed replies unread → Stands proxy peer stage t' before' fed replies unread
stands_lingering {peer = peer} {stage = stage} {fed = fed} {unread = unread} t t' before before' more lingers reads kept s =
    stands_same (record t { received = t.received ++ more }) t' before before' reads kept (holds_lingering more lingers s.0, behind_let_go before peer t.received fed unread more stage lingers s.1)

-- a write moves no byte that was received
received_still : (t t' : Traffic) (bytes : List ℕ) (m : Moved) → Writes t t' bytes m → t'.received ≡ t.received
received_still t t' bytes (moved.Bytes count) w = ap (λ (u : Traffic). u.received) w.1
received_still t t' bytes moved.Blocked w = ap (λ (u : Traffic). u.received) w
received_still t t' bytes moved.Over w = ap (λ (u : Traffic). u.received) w

-- a notice is sent last, as far as the system takes it
pub stands_notice : {proxy : Option NameOf} {peer : Option Peer} {stage : Stage} {fed replies unread : List ℕ} (t t' : Traffic) (before before' : Option (List ℕ)) (m : Moved) → stage ≡ stages.Ending
    → Writes t t' (codes "FAULT IDLE\n") m → before' ≡ before → Stands proxy peer stage t before fed replies unread → Stands proxy peer stages.Lingering t' before' fed replies unread
stands_notice {peer = peer} {stage = stage} {fed = fed} {unread = unread} t t' before before' m ends w kept s = (
  holds_notice t t' m ends w s.0,
  subst (λ (b : Option (List ℕ)). Behind b peer t'.received fed unread stages.Lingering) (sym kept)
      (subst (λ (r : List ℕ). Behind before peer r fed unread stages.Lingering) (sym (received_still t t' (codes "FAULT IDLE\n") m w))
      (behind_over before peer t.received fed unread unread stage stages.Lingering (λ not. absurd (cc (not))) s.1)),
)

-- the header is whole, and lines are carried from here on
begun : (before : Option (List ℕ)) (peer : Peer) (received fed unread : List ℕ) (stage : Stage) → IfSome before (λ b. b ≡ received) → fed ≡ [] → unread ≡ [] → Behind before (Some peer) received fed unread stage
begun None peer received fed unread stage is none empty = tt
begun (Some before) peer received fed unread stage is none empty = record {
  rest = [];
  received_is = sym is ∙ sym (ap (λ (f : List ℕ). before ++ (f ++ [])) none ∙ append-nil before);
  left = λ _. sym empty;
}

-- a session whose peer is not known was fed nothing
fed_nothing : (proxy : Option NameOf) (peer : Option Peer) (header fed : List ℕ) → peer ≡ None → NamesPeer proxy peer header fed → fed ≡ []
fed_nothing proxy None header fed none named = named.1
fed_nothing proxy (Some peer) header fed none named = absurd (cc (none))

pub stands_named : {proxy : Option NameOf} {awaited : Option Peer} {stage : Stage} {fed replies unread unread' : List ℕ} (name_of : NameOf) (peer : Peer) (t t' : Traffic) (before before' : Option (List ℕ))
    → proxy ≡ Some name_of → awaited ≡ None → stage ≡ stages.Serving → unread' ≡ [] → ReadsProxyHeader unread name_of (proxy_headers.Whole peer) → t' ≡ t → IfSome before' (λ b. b ≡ t.received)
    → Stands proxy awaited stage t before fed replies unread → Stands proxy (Some peer) stage t' before' fed replies unread'
stands_named {proxy = proxy} {awaited = awaited} {stage = stage} {fed = fed} {replies = replies} {unread = unread} {unread' = unread'} name_of peer t t' before before' proxied awaits serving none reads same is s =
    subst (λ (u : Traffic). Stands proxy (Some peer) stage u before' fed replies unread') (sym same) (
      holds_named name_of peer proxied awaits serving none reads s.0,
      begun before' peer t.received fed unread' stage is (fed_nothing proxy awaited s.0.header fed awaits s.0.named) none,
    )

-- before the peer is known no line is carried over HTTP
pub plain : (http : Option Http) (peer : Option Peer) (received fed unread : List ℕ) (stage : Stage) → peer ≡ None → Behind (before_of http) peer received fed unread stage → http ≡ None
plain None peer received fed unread stage none b = refl
plain (Some h) None received fed unread stage none b = absurd b
plain (Some h) (Some peer) received fed unread stage none b = absurd (cc (none))

-- the answers of a session whose lines are all answered
whole : (fed text : List ℕ) (ended : Option End) → (ended ≡ None) ⊎ (ended ≡ Some ends.Quit) → Replies fed text 0 ended
    → (said : List Answer) × (length said ≡ length (input_lines fed)) × (session_text said ≡ text)
whole fed text ended which r =
    let leaves : (length r.left ≡ 0) × (r.untold ≡ []) = elim which [
      | inl none ↦ subst (λ (e : Option End). Leaves e 0 r.left r.untold) none r.leaves
      | inr quit ↦ subst (λ (e : Option End). Leaves e 0 r.left r.untold) quit r.leaves
    ] in
    let lines : input_lines fed ≡ r.answered = r.these ∙ ap (λ (l : List (List ℕ)). r.answered ++ l) (nothing r.left leaves.0) ∙ append-nil r.answered in
    (r.said, r.one ∙ ap (λ (l : List (List ℕ)). length l) (sym lines), r.text_is ∙ ap (λ (u : List ℕ). text ++ u) leaves.1 ∙ append-nil text)

-- if the request in hand may be responded to, the session goes on, or QUIT ended it
stood : (stage : Stage) (end : Option End) (all ended : Bool) → EndsIn stage end all ended → (end ≡ None) ⊎ (end ≡ Some ends.Quit)
stood stage end all true e = inr (e.quits refl)
stood stage end all false e = inl (e.goes_on refl).1

-- the carried replies are the text of the answers to the carried lines
pub answers_over : {proxy : Option NameOf} (peer : Option Peer) {stage : Stage} {fed replies unread : List ℕ} (t : Traffic) (before : Option (List ℕ)) (end : Option End) (all ended : Bool)
    → Stands proxy peer stage t before fed replies unread → Replies fed replies 0 end → EndsIn stage end all ended → (all ≡ true → unread ≡ []) → AnswersOver before t ended
answers_over peer t None end all ended s r e none = tt
answers_over None t (Some before) end all ended s r e none = absurd s.1
answers_over (Some peer) {stage = stage} {fed = fed} {replies = replies} {unread = unread} t (Some before) end all ended s r e none =
    let b : IsBehind before t.received fed unread stage = s.1 in
    let w = whole fed replies end (stood stage end all ended e) r in
    let sent : t.sent ≡ replies = s.0.sent_is ∙ ap (λ (n : List ℕ). replies ++ n) (quiet stage s.0.notice e.stays s.0.ended) ∙ append-nil replies in record {
      given = fed ++ b.rest;
      received_is = b.received_is;
      answers = record {
        fed = fed;
        rest = b.rest;
        given_is = refl;
        said = w.0;
        one = w.1;
        text = w.2 ∙ sym sent;
        all = λ open_still. b.left (e.goes_on open_still).0 ∙ none (e.goes_on open_still).2;
      };
    }

-- bytes are let go, or none came
pub stands_discarded : {proxy : Option NameOf} {peer : Option Peer} {stage : Stage} {fed replies unread : List ℕ} (t t' : Traffic) (before before' : Option (List ℕ)) (buffer : List ℕ) (m : Moved) → stage ≡ stages.Lingering
    → Reads t t' buffer m ⊎ (t' ≡ t) → before' ≡ before → Stands proxy peer stage t before fed replies unread → Stands proxy peer stage t' before' fed replies unread
stands_discarded t t' before before' buffer m lingers (inr same) kept s = stands_same t t' before before' same kept s
stands_discarded t t' before before' buffer (moved.Bytes count) lingers (inl r) kept s = stands_lingering t t' before before' (take count buffer) lingers r.1 kept s
stands_discarded t t' before before' buffer moved.Blocked lingers (inl r) kept s = stands_same t t' before before' r kept s
stands_discarded t t' before before' buffer moved.Over lingers (inl r) kept s = stands_same t t' before before' r kept s

no_lines : input_lines [] ≡ []
unfolding lines_after
no_lines = refl

-- a session that was fed nothing has sent nothing
pub told_nothing : {proxy : Option NameOf} (peer : Option Peer) (stage : Stage) (fed replies unsent unread : List ℕ) (waiting : ℕ) (end : Option End) (t : Traffic) (before : Option (List ℕ)) → peer ≡ None → stage ≡ stages.Serving
    → Replies fed (replies ++ unsent) waiting end → Stands proxy peer stage t before fed replies unread → t.sent ≡ []
told_nothing {proxy = proxy} peer stage fed replies unsent unread waiting end t before none serving r s =
    let empty : fed ≡ [] = fed_nothing proxy peer s.0.header fed none s.0.named in
    let lines : r.answered ++ r.left ≡ [] = sym r.these ∙ ap input_lines empty ∙ no_lines in
    let answered : length r.answered ≡ 0 = let n = length-append r.answered r.left in let m = ap (λ (l : List (List ℕ)). length l) lines in omega (arith, n, m) in
    let said : r.said ≡ [] = nothing r.said (r.one ∙ answered) in
    let text : (replies ++ unsent) ++ r.untold ≡ [] = sym r.text_is ∙ ap session_text said in
    let all : length (replies ++ (unsent ++ r.untold)) ≡ 0 = ap (λ (l : List ℕ). length l) (sym (append_assoc replies unsent r.untold) ∙ text) in
    let gone : replies ≡ [] = nothing replies (let n = length-append replies (unsent ++ r.untold) in omega (arith, n, all)) in
    let goes_on : stage ≡ stages.Lingering → ⊥ = λ lingers. absurd (cc (serving, lingers)) in
    s.0.sent_is ∙ (λ i. gone i ++ quiet stage s.0.notice goes_on s.0.ended i)
