use Rattle.nmvs_rules.proofs.CourseLemmas.{reverted-between}
use Rattle.nmvs_rules.proofs.laws.packs.decommissioned_once.Goals as goal

pub returns : goal.returns
returns c = reverted-between
