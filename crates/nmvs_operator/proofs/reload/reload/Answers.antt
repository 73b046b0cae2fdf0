use Rattle.std.proofs.Common.{[], Err, refl, inl}
use Rattle.nmvs_operator.specs.declared.faults.ObeyFault.TheVariants as obey
use Rattle.nmvs_operator.specs.Commands.{saying}
use Rattle.nmvs_operator.proofs.CommandLemmas.{tells}
use Rattle.nmvs_operator.proofs.reload.reload.Goals as goal

pub returns-in-Err : goal.returns-in-Err
returns-in-Err g c = (
  saying [] (Err (obey.Undone c.in-Err.fault)),
  (inl refl, (refl, refl), refl),
  tells c.fault_text.ensures c.tell.ensures,
  refl,
)
