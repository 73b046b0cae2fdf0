use Rattle.nmvs_rules.proofs.ReversionLemmas.{reversion-exact}
use Rattle.nmvs_rules.proofs.laws.acceptance.reversion.Goals as goal

pub returns : goal.returns
returns c = reversion-exact
