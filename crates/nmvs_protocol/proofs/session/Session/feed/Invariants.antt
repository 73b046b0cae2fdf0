use Rattle.std.proofs.Common.{◌≡◌, ◌≤◌, ◌++◌, [], List, ℕ, length}
use Rattle.nmvs_stream.specs.InputLines.{unfinished_line}
use Rattle.nmvs_messages.specs.PendingLines.{kept_part}
use Rattle.nmvs_protocol.proofs.SessionSteps.{Ahead}
use Rattle.nmvs_messages.specs.Peers.{TakesFrom}
use Rattle.nmvs_protocol.proofs.session.Session.feed.Given as goal

abbrev pub invariant-loop-rest : goal.invariant-loop-rest
invariant-loop-rest g l =
    (l.withheld ≡ []) × (bytes : List ℕ) × (bytes ++ l.rest ≡ l.more)
    × ((fed : List ℕ) → l.fn.self.line ≡ kept_part (unfinished_line fed) → l.fn.self.answered ≤ l.fn.self.limit
    → Ahead (TakesFrom g.D.Desk.takes l.from) g.D.Desk.releases g.D.Desk.moves l.fn.self l.fn.desk (g.W.Sink.taken l.fn.sink) l.desk (g.W.Sink.taken l.sink)
    l.self (unfinished_line fed) bytes)

abbrev pub decreases-loop-rest : goal.decreases-loop-rest
decreases-loop-rest g l = length l.rest
