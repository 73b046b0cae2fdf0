use Rattle.std.proofs.Common.{◌≡◌, ◌∙◌, ◌++◌, ◌≤◌, ◌-◌, ℕ, List, inr, take, length, refl, sym, ap, subst}
use Rattle.nmvs_connections.specs.LineStreams.{before_of, carried}
use Rattle.nmvs_connections.specs.declared.peer_session.Stage.TheVariants as stages
use Rattle.nmvs_connections.proofs.ConnectionLemmas.{rests_later, steps_resting}
use Rattle.nmvs_connections.proofs.LineSteps.{stands_taken}
use Rattle.nmvs_connections.proofs.PeerSteps.{cut_front}
use Rattle.nmvs_connections.proofs.peer_session.PeerSession.take_unread.Goals as goal

pub returns-then-before_report-eq0 : goal.returns-then-before_report-eq0
returns-then-before_report-eq0 g c = rw (← c.self.view_is) (steps_resting _ _ _ _ _ _ refl (refl, refl, refl))

pub invariant_of-self : goal.invariant_of-self
invariant_of-self g c =
    let is = c.self.inside in
    let serving : is.stage ≡ stages.Serving = ap (λ p. p.stage) c.self.view_is ∙ c.requires in
    let unread = is.unread.items in
    let n = c.take_lines-taken.result in
    let e = c.take_lines-taken.ensures in
    let same : c.as_slice-unread.result.now ≡ unread = c.as_slice-unread.ensures.value in
    let feeds = e.fed ∙ ap (λ (t : List ℕ). is.session.fed ++ take n t) same in
    let within : n ≤ length unread = subst (λ (t : List ℕ). n ≤ length t) same e.within in
    let many : c.len-count.result ≡ length unread = c.len-count.ensures ∙ sym c.as_slice-unread.ensures.len ∙ ap (λ (t : List ℕ). length t) same in
    let left = c.truncate.ensures.items ∙ ap (λ (t : List ℕ). take (c.len-count.result - n) t) c.rotate_left.ensures.items ∙ cut_front n unread c.len-count.result within many in
    stands_taken is.proxy is.peer (carried is.stream) (before_of is.stream.http) n e.known serving feeds e.sent left c.self.invariant

pub returns : goal.returns
returns g c =
    rw (← c.self.view_is)
    (record { step = c.take_lines-taken.ensures.takes; waits = inr c.next_of.ensures; later = rests_later _ _ (refl, refl, refl) })
