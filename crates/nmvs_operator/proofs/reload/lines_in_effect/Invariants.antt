use Rattle.std.proofs.Common.{length}
use Rattle.nmvs_directory.specs.Registrar.{published}
use Rattle.nmvs_operator.proofs.ReloadLemmas.{TakenTo}
use Rattle.nmvs_operator.proofs.reload.lines_in_effect.Given as goal

abbrev pub invariant-loop-line : goal.invariant-loop-line
invariant-loop-line g l = TakenTo l.fn.all (published l.fn.registrar) l.fn.file l.rest l.lines.items

abbrev pub decreases-loop-line : goal.decreases-loop-line
decreases-loop-line g l = length l.rest
