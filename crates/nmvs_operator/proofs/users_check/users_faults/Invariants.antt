use Rattle.std.proofs.Common.{◌≡◌, ◌+◌, ◌≤◌, ◌++◌, map, length}
use Rattle.nmvs_operator.specs.UsersFaults.{shown, faults_from}
use Rattle.nmvs_operator.proofs.users_check.users_faults.Given as goal

abbrev pub invariant-loop-line : goal.invariant-loop-line
invariant-loop-line l =
    (l.number + length l.rest ≤ length l.fn.bytes + 1)
    × (map shown l.faults.items ++ faults_from l.number l.rest ≡ faults_from 1 l.fn.bytes)

abbrev pub decreases-loop-line : goal.decreases-loop-line
decreases-loop-line l = length l.rest
