use Rattle.nmvs_cases.proofs.OverLemmas.{stay}
use Rattle.nmvs_cases.proofs.laws.cases_stay.Goals as goal

pub returns : goal.returns
returns c = stay
