use Rattle.std.proofs.Common.{◌≡◌, length}
use Rattle.nmvs_stream.specs.InputLines.{input_lines}
use Rattle.nmvs_operator.specs.UsersFaults.{say_nothing}
use Rattle.nmvs_operator.proofs.users_check.changes_nothing.Given as goal

abbrev pub invariant-loop-line : goal.invariant-loop-line
invariant-loop-line l = say_nothing (input_lines l.fn.bytes) ≡ say_nothing (input_lines l.rest)

abbrev pub decreases-loop-line : goal.decreases-loop-line
decreases-loop-line l = length l.rest
