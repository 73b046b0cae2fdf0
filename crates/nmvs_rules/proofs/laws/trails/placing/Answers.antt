use Rattle.nmvs_rules.proofs.MergeLemmas.{IsLawful-placed}
use Rattle.nmvs_rules.proofs.laws.trails.placing.Goals as goal

pub returns : goal.returns
returns c = IsLawful-placed
