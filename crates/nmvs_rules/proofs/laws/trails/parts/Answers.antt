use Rattle.nmvs_rules.proofs.MergeLemmas.{IsLawful-kept}
use Rattle.nmvs_rules.proofs.laws.trails.parts.Goals as goal

pub returns : goal.returns
returns c = IsLawful-kept
