use Rattle.nmvs_rules.proofs.CourseLemmas.{supplied-once}
use Rattle.nmvs_rules.proofs.laws.packs.supplied_once.Goals as goal

pub returns : goal.returns
returns c = supplied-once
