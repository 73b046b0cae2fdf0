use Rattle.nmvs_cases.proofs.HintLemmas.{hints-true}
use Rattle.nmvs_cases.proofs.laws.hints_are_true.Goals as goal

pub returns : goal.returns
returns c = hints-true
