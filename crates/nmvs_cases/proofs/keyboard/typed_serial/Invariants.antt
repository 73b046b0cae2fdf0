use Rattle.std.proofs.Common.{◌≡◌, ◌+◌, ◌≤◌, ◌++◌, length, map}
use Rattle.nmvs_cases.specs.Hints.{typed_byte}
use Rattle.nmvs_cases.proofs.keyboard.typed_serial.Given as goal

abbrev pub invariant-loop-rest : goal.invariant-loop-rest
invariant-loop-rest l =
    (l.typed.items ++ map (typed_byte l.fn.keyboard) l.rest ≡ map (typed_byte l.fn.keyboard) l.fn.serial.bytes) × (length l.typed.items + length l.rest ≤ 20)

abbrev pub decreases-loop-rest : goal.decreases-loop-rest
decreases-loop-rest l = length l.rest
