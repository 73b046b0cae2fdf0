use Rattle.std.proofs.Common.{take}
use Rattle.nmvs_inspect.specs.Comparison.{HasPassed}
use Rattle.nmvs_inspect.proofs.comparison.first_departure.Given as goal

abbrev pub invariant-loop-place : goal.invariant-loop-place
invariant-loop-place g l = HasPassed l.walk (take l.place l.old) l.new
