use Rattle.std.proofs.Common.{◌≡◌, length}
use Rattle.nmvs_cases.specs.Texts.{lacks_later_controls}
use Rattle.nmvs_cases.proofs.text.lacks_later_controls.Given as goal

abbrev pub invariant-loop-rest : goal.invariant-loop-rest
invariant-loop-rest l = lacks_later_controls l.rest ≡ lacks_later_controls l.fn.text

abbrev pub decreases-loop-rest : goal.decreases-loop-rest
decreases-loop-rest l = length l.rest
