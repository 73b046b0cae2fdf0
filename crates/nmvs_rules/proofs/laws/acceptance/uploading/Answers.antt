use Rattle.nmvs_rules.proofs.AcceptanceLemmas.{uploading-exact}
use Rattle.nmvs_rules.proofs.laws.acceptance.uploading.Goals as goal

pub returns : goal.returns
returns c = uploading-exact
