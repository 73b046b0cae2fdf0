use Rattle.std.proofs.Common.{◌≡◌, ◌+◌, ◌≤◌, ℕ, List, ◌++◌, false}
use Rattle.nmvs_protocol.proofs.SessionSteps.{SoFar}
use Rattle.nmvs_messages.specs.Peers.{TakesFrom}
use Rattle.nmvs_protocol.proofs.serving.serve.Given as goal

abbrev pub invariant-loop : goal.invariant-loop
invariant-loop g l =
    let told = g.R.Source.told in
    (input : List ℕ) × ((told l.source).bytes ≡ (told l.fn.source).bytes ++ input)
    × SoFar (TakesFrom g.D.Desk.takes l.from) g.D.Desk.releases g.D.Desk.moves l.fn.limits.lines l.fn.desk (g.W.Sink.taken l.fn.sink) l.desk (g.W.Sink.taken l.sink) l.session input
    × ((told l.source).reads ≡ (told l.fn.source).reads + l.counter)
    × ((told l.source).ended ≡ false)
    × ((told l.source).failed ≡ false)
    × (l.counter ≤ l.fn.limits.reads)
