use Rattle.std.proofs.Common.{◌≡◌, ◌∙◌, ◌++◌, ◌==◌, inr, ℕ, true, List, [], take, length, refl, sym, ap, subst, rules}
use Rattle.nmvs_connections.specs.LineStreams.{before_of, carried}
use Rattle.nmvs_connections.specs.Traffic.{Traffic}
use Rattle.nmvs_connections.specs.declared.peer_session.Stage.TheVariants as stages
use Rattle.nmvs_connections.proofs.ConnectionLemmas.{reads_later, steps_idle, steps_resting}
use Rattle.nmvs_connections.proofs.LineSteps.{Stands, stands_over, stands_read, stands_taken}
use Rattle.nmvs_connections.proofs.PeerSteps.{empty, kept_rest}
use Rattle.nmvs_connections.proofs.peer_session.PeerSession.take.Goals as goal

pub returns-in-Blocked : goal.returns-in-Blocked
returns-in-Blocked g c = rw (← c.self.view_is) (steps_resting _ _ _ _ _ _ c.pause.ensures.session (let r = c.pause.ensures.rests in (r.0, r.1, r.2 ∙ ap (λ (t : Traffic). t.received) c.in-Blocked.ensures.reads)))

pub returns-in-Over : goal.returns-in-Over
returns-in-Over g c = rw (← c.self.view_is) (steps_idle _ _ _ _ _ _ refl (reads_later _ _ _ _ refl (λ peer known. known) c.read.ensures.reads))

pub returns-in_default : goal.returns-in_default
returns-in_default g c = rw (← c.self.view_is) (steps_idle _ _ _ _ _ _ refl (reads_later _ _ _ _ refl (λ peer known. known) c.read.ensures.reads))

pub returns-then-is_lost : goal.returns-then-is_lost
returns-then-is_lost g c =
    rw (← c.self.view_is) (record { step = c.take_lines-taken.ensures.takes; waits = inr c.next_of-next.ensures; later = reads_later _ _ _ _ refl (λ peer known. known) c.read.ensures.reads })

pub returns : goal.returns
returns g c =
    rw (← c.self.view_is) (record { step = c.take_lines-taken.ensures.takes; waits = inr c.next_of-next.ensures; later = reads_later _ _ _ _ refl (λ peer known. known) c.read.ensures.reads })

pub invariant_of-self-then-is_lost : goal.invariant_of-self-then-is_lost
invariant_of-self-then-is_lost g c =
    let is = c.self.inside in
    let serving : is.stage ≡ stages.Serving = ap (λ p. p.stage) c.self.view_is ∙ c.requires in
    let some : c.is_empty.result ≡ true = first_of (search rules, cc (c.if-not-is_empty.false)) in
    let none : is.unread.items ≡ [] = empty is.unread.items (ap (λ (l : List ℕ). length l == 0) (sym c.as_slice.ensures.value) ∙ sym c.is_empty.ensures ∙ some) in
    let chunk = take c.in-Bytes.count c.read.new.buffer in
    let new = c.read.new.self in
    let read = stands_read (carried is.stream) (carried new) (before_of is.stream.http) (before_of new.http) chunk c.in-Bytes.ensures.reads.1 c.in-Bytes.ensures.before c.self.invariant in
    let came : Stands is.proxy is.peer is.stage (carried new) (before_of new.http) is.session.fed is.session.sent chunk =
    subst (λ (u : List ℕ). Stands is.proxy is.peer is.stage (carried new) (before_of new.http) is.session.fed is.session.sent (u ++ chunk)) none read in
    let e = c.take_lines-taken.ensures in
    stands_over (carried new) (before_of new.http) c.is_lost.new.unread.items serving (stands_taken is.proxy is.peer (carried new) (before_of new.http) c.take_lines-taken.result e.known serving e.fed e.sent refl came)

pub invariant_of-self-else-is_lost : goal.invariant_of-self-else-is_lost
invariant_of-self-else-is_lost g c =
    let is = c.self.inside in
    let serving : is.stage ≡ stages.Serving = ap (λ p. p.stage) c.self.view_is ∙ c.requires in
    let some : c.is_empty.result ≡ true = first_of (search rules, cc (c.if-not-is_empty.false)) in
    let none : is.unread.items ≡ [] = empty is.unread.items (ap (λ (l : List ℕ). length l == 0) (sym c.as_slice.ensures.value) ∙ sym c.is_empty.ensures ∙ some) in
    let chunk = take c.in-Bytes.count c.read.new.buffer in
    let new = c.read.new.self in
    let n = c.take_lines-taken.result in
    let read = stands_read (carried is.stream) (carried new) (before_of is.stream.http) (before_of new.http) chunk c.in-Bytes.ensures.reads.1 c.in-Bytes.ensures.before c.self.invariant in
    let came : Stands is.proxy is.peer is.stage (carried new) (before_of new.http) is.session.fed is.session.sent chunk =
    subst (λ (u : List ℕ). Stands is.proxy is.peer is.stage (carried new) (before_of new.http) is.session.fed is.session.sent (u ++ chunk)) none read in
    let e = c.take_lines-taken.ensures in
    let left = kept_rest c.is_lost.result c.is_lost.new.unread.items is.unread.items chunk n c.is_lost.ensures c.if-is_lost.false none in
    stands_taken is.proxy is.peer (carried new) (before_of new.http) n e.known serving e.fed e.sent left came
