use Rattle.nmvs_rules.proofs.MergeLemmas.{IsLawful-merged}
use Rattle.nmvs_rules.proofs.laws.trails.merging.Goals as goal

pub returns : goal.returns
returns c = IsLawful-merged
