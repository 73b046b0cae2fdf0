use Rattle.std.proofs.Common.{◌+◌, ◌≤◌, length}
use Rattle.nmvs_directory.specs.Changes.{pending_changes, KeepsEntered}
use Rattle.nmvs_operator.proofs.UsersFile.{Added}
use Rattle.nmvs_operator.proofs.users.add_all.Given as goal

abbrev pub invariant-loop-line : goal.invariant-loop-line
invariant-loop-line g l =
    KeepsEntered l.fn.changes l.changes × (l.number + length l.rest ≤ length l.fn.bytes + 1)
    × Added l.fn.bytes l.rest l.number (pending_changes l.fn.changes) (pending_changes l.changes)

abbrev pub decreases-loop-line : goal.decreases-loop-line
decreases-loop-line g l = length l.rest
