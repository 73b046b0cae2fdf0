use Rattle.nmvs_rules.proofs.RepeatLaws.{at-most-once}
use Rattle.nmvs_rules.proofs.laws.repeats.once.Goals as goal

pub returns : goal.returns
returns c = at-most-once
