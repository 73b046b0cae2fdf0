use Rattle.nmvs_cases.proofs.CaseLemmas.{none-forgotten}
use Rattle.nmvs_cases.proofs.laws.none_is_forgotten.Goals as goal

pub returns : goal.returns
returns c = none-forgotten
