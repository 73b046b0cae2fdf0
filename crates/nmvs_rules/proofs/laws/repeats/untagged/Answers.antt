use Rattle.nmvs_rules.proofs.UntaggedLemmas.{reply-untagged, lawful-untagged, new-untagged}
use Rattle.nmvs_rules.proofs.laws.repeats.untagged.Goals as goal

pub returns-clause-replies : goal.returns-clause-replies
returns-clause-replies c = reply-untagged

pub returns-clause-lawful : goal.returns-clause-lawful
returns-clause-lawful c = lawful-untagged

pub returns-clause-new : goal.returns-clause-new
returns-clause-new c = new-untagged
