use Rattle.std.proofs.Common.{◌≡◌, ◌≤◌, ◌++◌, [], List, ℕ, length}
use Rattle.nmvs_messages.specs.PendingLines.{kept_part}
use Rattle.nmvs_protocol.proofs.SessionSteps.{TakesOn}
use Rattle.nmvs_messages.specs.Peers.{TakesFrom}
use Rattle.nmvs_protocol.proofs.session.Session.take.Given as goal

abbrev pub invariant-loop-tail : goal.invariant-loop-tail
invariant-loop-tail g l =
    (bytes : List ℕ) × (bytes ++ l.rest ≡ l.more) × (bytes ≡ [] → l.withheld ≡ l.fn.withheld)
    × ((begun : List ℕ) → l.fn.self.line ≡ kept_part begun → l.fn.self.answered ≤ l.fn.self.limit
    → TakesOn (TakesFrom g.D.Desk.takes l.from) l.fn.self l.fn.desk l.fn.withheld begun bytes l.self l.desk l.withheld)

abbrev pub decreases-loop-tail : goal.decreases-loop-tail
decreases-loop-tail g l = length l.rest
