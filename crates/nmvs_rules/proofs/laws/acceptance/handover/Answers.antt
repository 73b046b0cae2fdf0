use Rattle.nmvs_rules.proofs.AcceptanceLemmas.{handover-exact}
use Rattle.nmvs_rules.proofs.laws.acceptance.handover.Goals as goal

pub returns : goal.returns
returns c = handover-exact
