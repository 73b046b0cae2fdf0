use Rattle.nmvs_rules.proofs.AcceptanceLemmas.{theft-exact}
use Rattle.nmvs_rules.proofs.laws.acceptance.theft.Goals as goal

pub returns : goal.returns
returns c = theft-exact
