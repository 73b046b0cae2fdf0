-- How the bytes of a connection stay those of its session, from one read or write to the next.
use Rattle.std.proofs.Common.{◌≡◌, ◌≤◌, ◌-◌, ◌==◌, inl, inr, ℕ, Bool, true, false, cond, List, [], ◌∷◌, ◌++◌, length, Option, Some, None, take, drop, codes, arith, refl, sym, ap, subst, ◌∙◌}
use Rattle.std.proofs.lemmas.Bool.Decides.{eqb_tells}
use Rattle.std.proofs.lemmas.List.{append-nil, append_assoc, length-drop, take-append-drop, take_all, take_at}
use Rattle.nmvs_messages.specs.declared.peer.NameOf.{NameOf}
use Rattle.nmvs_messages.specs.declared.peer.Peer.{Peer}
use Rattle.nmvs_messages.specs.declared.peer.Peer.TheVariants as peers
use Rattle.nmvs_connections.specs.declared.peer_session.Stage.{Stage}
use Rattle.nmvs_connections.specs.declared.peer_session.Stage.TheVariants as stages
use Rattle.nmvs_connections.specs.declared.proxy_header.ProxyHeader.TheVariants as proxy_headers
use Rattle.nmvs_connections.specs.ProxyHeader.{ReadsProxyHeader}
use Rattle.nmvs_connections.specs.Traffic.{Traffic}
use Rattle.nmvs_connections.specs.declared.socket.Moved.{Moved}
use Rattle.nmvs_connections.specs.declared.socket.Moved.TheVariants as moved
use Rattle.nmvs_connections.specs.Streams.{Writes}
use Rattle.nmvs_connections.specs.Peers.{EndsWith, Holds, IsNotice, NamesPeer}

-- a list of length 0 is empty
pub nothing : {A : Type 0} (xs : List A) → length xs ≡ 0 → xs ≡ []
nothing [] e = refl
nothing (x ∷ xs) e = absurd (cc e)

pub empty : (xs : List ℕ) → (length xs == 0) ≡ true → xs ≡ []
empty xs e = nothing xs (elim (eqb_tells (length xs) 0) [ inl is ↦ is.1 | inr apart ↦ absurd (cc (apart.0, e)) ])

-- the bytes that are left after the front is moved to the end and cut off
pub cut_front : (n : ℕ) (xs : List ℕ) (count : ℕ) → n ≤ length xs → count ≡ length xs → take (count - n) (drop n xs ++ take n xs) ≡ drop n xs
cut_front n xs count within is =
    let left = length-drop n xs in
    take_at (drop n xs) (take n xs) (count - n) (omega (arith, left, within, is))

-- the bytes that are left are all that is kept, if they were not lost
pub kept_rest : (lost : Bool) (items old bytes : List ℕ) (n : ℕ) → items ≡ cond lost old (old ++ take (length bytes - n) (drop n bytes)) → lost ≡ false → old ≡ [] → items ≡ drop n bytes
kept_rest true items old bytes n is holds none = absurd (cc holds)
kept_rest false items old bytes n is holds none =
    let left = length-drop n bytes in
    is ∙ ap (λ (t : List ℕ). t ++ take (length bytes - n) (drop n bytes)) none ∙ take_all (length bytes - n) (drop n bytes) (omega (arith, left))

-- a connection from which nothing was read
pub holds_new : Holds None (Some peers.Anyone) stages.Serving [] [] [] [] []
holds_new = record { header = []; rest = []; received_is = refl; named = (refl, refl); left = λ _. refl; notice = []; sent_is = refl; ended = refl }

pub holds_awaiting : (name_of : NameOf) → Holds (Some name_of) None stages.Serving [] [] [] [] []
holds_awaiting name_of = record { header = []; rest = []; received_is = refl; named = (refl, refl); left = λ _. refl; notice = []; sent_is = refl; ended = refl }

-- before a connection lingers nothing is sent but replies
pub quiet : (stage : Stage) (notice : List ℕ) → (stage ≡ stages.Lingering → ⊥) → EndsWith stage notice → notice ≡ []
quiet stages.Serving notice goes_on e = e
quiet stages.Ending notice goes_on e = e
quiet stages.Lingering notice goes_on e = absurd (goes_on refl)

module _ {proxy : Option NameOf} {peer : Option Peer} {stage : Stage} {received sent fed replies unread : List ℕ} where
  -- more bytes were read, and are unread
  pub holds_read : (more : List ℕ) → Holds proxy peer stage received sent fed replies unread → Holds proxy peer stage (received ++ more) sent fed replies (unread ++ more)
  holds_read more h = record {
    header = h.header;
    rest = h.rest ++ more;
    received_is = ap (λ (t : List ℕ). t ++ more) h.received_is ∙ append_assoc h.header (fed ++ h.rest) more ∙ ap (λ (t : List ℕ). h.header ++ t) (append_assoc fed h.rest more);
    named = h.named;
    left = λ serving. ap (λ (t : List ℕ). t ++ more) (h.left serving);
    notice = h.notice;
    sent_is = h.sent_is;
    ended = h.ended;
  }

  -- no more lines are taken, and the unread bytes are discarded
  pub holds_over : (unread' : List ℕ) → stage ≡ stages.Serving → Holds proxy peer stage received sent fed replies unread → Holds proxy peer stages.Ending received sent fed replies unread'
  holds_over unread' serving h = record {
    header = h.header;
    rest = h.rest;
    received_is = h.received_is;
    named = h.named;
    left = λ not. absurd (cc (not));
    notice = h.notice;
    sent_is = h.sent_is;
    ended = subst (λ (s : Stage). EndsWith s h.notice) serving h.ended;
  }

  -- bytes are let go while the connection lingers
  pub holds_lingering : (more : List ℕ) → stage ≡ stages.Lingering → Holds proxy peer stage received sent fed replies unread → Holds proxy peer stage (received ++ more) sent fed replies unread
  holds_lingering more lingers h = record {
    header = h.header;
    rest = h.rest ++ more;
    received_is = ap (λ (t : List ℕ). t ++ more) h.received_is ∙ append_assoc h.header (fed ++ h.rest) more ∙ ap (λ (t : List ℕ). h.header ++ t) (append_assoc fed h.rest more);
    named = h.named;
    left = λ serving. absurd (cc (serving, lingers));
    notice = h.notice;
    sent_is = h.sent_is;
    ended = h.ended;
  }

  -- replies were sent
  pub holds_sent : (more : List ℕ) → (stage ≡ stages.Lingering → ⊥) → Holds proxy peer stage received sent fed replies unread → Holds proxy peer stage received (sent ++ more) fed (replies ++ more) unread
  holds_sent more goes_on h =
      let none = quiet stage h.notice goes_on h.ended in record {
        header = h.header;
        rest = h.rest;
        received_is = h.received_is;
        named = h.named;
        left = h.left;
        notice = [];
        sent_is = ap (λ (t : List ℕ). t ++ more) (h.sent_is ∙ ap (λ (t : List ℕ). replies ++ t) none ∙ append-nil replies) ∙ sym (append-nil (replies ++ more));
        ended = subst (λ (t : List ℕ). EndsWith stage t) none h.ended;
      }

  -- a notice is sent last, or none
  pub holds_shut : (notice : List ℕ) → stage ≡ stages.Ending → IsNotice notice → Holds proxy peer stage received sent fed replies unread
      → Holds proxy peer stages.Lingering received (sent ++ notice) fed replies unread
  holds_shut notice ends is h =
      let none : h.notice ≡ [] = subst (λ (s : Stage). EndsWith s h.notice) ends h.ended in record {
        header = h.header;
        rest = h.rest;
        received_is = h.received_is;
        named = h.named;
        left = λ not. absurd (cc (not));
        notice = notice;
        sent_is = ap (λ (t : List ℕ). t ++ notice) (h.sent_is ∙ ap (λ (t : List ℕ). replies ++ t) none ∙ append-nil replies);
        ended = is;
      }

  -- or nothing is
  pub holds_quiet : stage ≡ stages.Ending → Holds proxy peer stage received sent fed replies unread → Holds proxy peer stages.Lingering received sent fed replies unread
  holds_quiet ends h =
      let none : h.notice ≡ [] = subst (λ (s : Stage). EndsWith s h.notice) ends h.ended in record {
        header = h.header;
        rest = h.rest;
        received_is = h.received_is;
        named = h.named;
        left = λ not. absurd (cc (not));
        notice = [];
        sent_is = h.sent_is ∙ ap (λ (t : List ℕ). replies ++ t) none;
        ended = (codes "FAULT IDLE\n", refl);
      }

-- the notice that a peer was idle is sent last, as far as the system takes it
pub holds_notice : {proxy : Option NameOf} {peer : Option Peer} {stage : Stage} {fed replies unread : List ℕ} (old new : Traffic) (m : Moved) → stage ≡ stages.Ending → Writes old new (codes "FAULT IDLE\n") m
    → Holds proxy peer stage old.received old.sent fed replies unread → Holds proxy peer stages.Lingering new.received new.sent fed replies unread
holds_notice {proxy} {peer} {stage} {fed} {replies} {unread} old new (moved.Bytes count) ends w h =
    let notice = take count (codes "FAULT IDLE\n") in
    subst (λ (t : Traffic). Holds proxy peer stages.Lingering t.received t.sent fed replies unread) (sym w.1) (holds_shut notice ends (drop count (codes "FAULT IDLE\n"), take-append-drop count (codes "FAULT IDLE\n")) h)
holds_notice {proxy} {peer} {stage} {fed} {replies} {unread} old new moved.Blocked ends w h =
    subst (λ (t : Traffic). Holds proxy peer stages.Lingering t.received t.sent fed replies unread) (sym w) (holds_quiet ends h)
holds_notice {proxy} {peer} {stage} {fed} {replies} {unread} old new moved.Over ends w h =
    subst (λ (t : Traffic). Holds proxy peer stages.Lingering t.received t.sent fed replies unread) (sym w) (holds_quiet ends h)

-- the header is whole
named_whole : {name_of : NameOf} {received sent fed replies unread : List ℕ} (peer : Peer) → ReadsProxyHeader unread name_of (proxy_headers.Whole peer)
    → Holds (Some name_of) None stages.Serving received sent fed replies unread → Holds (Some name_of) (Some peer) stages.Serving received sent fed replies []
named_whole {received = received} {fed = fed} {unread = unread} peer reads h =
    let whole : received ≡ unread = h.received_is ∙ (λ i. h.named.0 i ++ (h.named.1 i ++ h.left refl i)) in record {
      header = unread;
      rest = [];
      received_is = whole ∙ sym (ap (λ (t : List ℕ). unread ++ (t ++ [])) h.named.1 ∙ append-nil unread);
      named = reads;
      left = λ _. refl;
      notice = h.notice;
      sent_is = h.sent_is;
      ended = h.ended;
    }

pub holds_named : {proxy : Option NameOf} {awaited : Option Peer} {stage : Stage} {received sent fed replies unread unread' : List ℕ} (name_of : NameOf) (peer : Peer) → proxy ≡ Some name_of → awaited ≡ None → stage ≡ stages.Serving
    → unread' ≡ [] → ReadsProxyHeader unread name_of (proxy_headers.Whole peer) → Holds proxy awaited stage received sent fed replies unread → Holds proxy (Some peer) stage received sent fed replies unread'
holds_named {proxy = proxy} {awaited = awaited} {stage = stage} {received = received} {sent = sent} {fed = fed} {replies = replies} {unread = unread} name_of peer proxied awaits serving none reads h =
    let before : Holds (Some name_of) None stages.Serving received sent fed replies unread = subst (λ (s : Stage). Holds (Some name_of) None s received sent fed replies unread) serving
    (subst (λ (p : Option Peer). Holds (Some name_of) p stage received sent fed replies unread) awaits
    (subst (λ (p : Option NameOf). Holds p awaited stage received sent fed replies unread) proxied h)) in
    let whole : Holds (Some name_of) (Some peer) stages.Serving received sent fed replies [] = named_whole peer reads before in
    subst (λ (u : List ℕ). Holds proxy (Some peer) stage received sent fed replies u) (sym none)
    (subst (λ (p : Option NameOf). Holds p (Some peer) stage received sent fed replies []) (sym proxied)
    (subst (λ (s : Stage). Holds (Some name_of) (Some peer) s received sent fed replies []) (sym serving) whole))

-- a peer that is known stays that of the header, whatever is taken
named_still : (proxy : Option NameOf) (peer : Peer) (header fed fed' : List ℕ) → NamesPeer proxy (Some peer) header fed → NamesPeer proxy (Some peer) header fed'
named_still None peer header fed fed' named = named
named_still (Some name_of) peer header fed fed' named = named

-- some of the unread bytes were taken
taken : (proxy : Option NameOf) (peer : Option Peer) {stage : Stage} {received sent fed replies unread : List ℕ} (n : ℕ) → (peer ≡ None → n ≡ 0) → stage ≡ stages.Serving
    → Holds proxy peer stage received sent fed replies unread → Holds proxy peer stage received sent (fed ++ take n unread) replies (drop n unread)
taken proxy None {stage = stage} {received = received} {sent = sent} {fed = fed} {replies = replies} {unread = unread} n known serving h =
    subst (λ (k : ℕ). Holds proxy None stage received sent (fed ++ take k unread) replies (drop k unread)) (sym (known refl))
    (subst (λ (f : List ℕ). Holds proxy None stage received sent f replies unread) (sym (append-nil fed)) h)
taken proxy (Some peer) {fed = fed} {unread = unread} n known serving h =
    let split : h.rest ≡ take n unread ++ drop n unread = h.left serving ∙ sym (take-append-drop n unread) in record {
      header = h.header;
      rest = drop n unread;
      received_is = h.received_is ∙ ap (λ (t : List ℕ). h.header ++ (fed ++ t)) split ∙ ap (λ (t : List ℕ). h.header ++ t) (sym (append_assoc fed (take n unread) (drop n unread)));
      named = named_still proxy peer h.header fed (fed ++ take n unread) h.named;
      left = λ _. refl;
      notice = h.notice;
      sent_is = h.sent_is;
      ended = h.ended;
    }

pub holds_taken : (proxy : Option NameOf) (peer : Option Peer) {stage : Stage} {received sent fed fed' replies replies' unread unread' : List ℕ} (n : ℕ) → (peer ≡ None → n ≡ 0) → stage ≡ stages.Serving
    → fed' ≡ fed ++ take n unread → replies' ≡ replies → unread' ≡ drop n unread → Holds proxy peer stage received sent fed replies unread → Holds proxy peer stage received sent fed' replies' unread'
holds_taken proxy peer {stage = stage} {received = received} {sent = sent} {fed = fed} {fed' = fed'} {replies = replies} {replies' = replies'} {unread = unread} {unread' = unread'} n known serving feeds same left h =
    subst (λ (f : List ℕ). Holds proxy peer stage received sent f replies' unread') (sym feeds)
    (subst (λ (r : List ℕ). Holds proxy peer stage received sent (fed ++ take n unread) r unread') (sym same)
    (subst (λ (u : List ℕ). Holds proxy peer stage received sent (fed ++ take n unread) replies u) (sym left) (taken proxy peer n known serving h)))
