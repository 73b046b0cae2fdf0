use Rattle.nmvs_rules.proofs.RepeatLaws.{answered-again}
use Rattle.nmvs_rules.proofs.laws.repeats.asked_again.Goals as goal

pub returns : goal.returns
returns c = answered-again
