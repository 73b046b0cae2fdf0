use Rattle.nmvs_rules.proofs.RepeatLaws.{repeated, repeated-by-rules}
use Rattle.nmvs_rules.proofs.laws.repeats.repetition.Goals as goal

pub returns-clause-entry : goal.returns-clause-entry
returns-clause-entry c = repeated

pub returns-clause-rules : goal.returns-clause-rules
returns-clause-rules c = repeated-by-rules
