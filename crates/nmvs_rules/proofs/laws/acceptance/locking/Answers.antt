use Rattle.nmvs_rules.proofs.AcceptanceLemmas.{locking-exact}
use Rattle.nmvs_rules.proofs.laws.acceptance.locking.Goals as goal

pub returns : goal.returns
returns c = locking-exact
