use Rattle.nmvs_rules.proofs.RecallLemmas.{recall-binds}
use Rattle.nmvs_rules.proofs.laws.packs.recall_binds.Goals as goal

pub returns : goal.returns
returns c = recall-binds
