use Rattle.nmvs_rules.proofs.VerificationLemmas.{decommissioning-exact}
use Rattle.nmvs_rules.proofs.laws.acceptance.decommissioning.Goals as goal

pub returns : goal.returns
returns c = decommissioning-exact
