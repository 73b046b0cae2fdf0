use Rattle.nmvs_rules.proofs.VerificationLemmas.{verification-exact}
use Rattle.nmvs_rules.proofs.laws.answers.verification.Goals as goal

pub returns : goal.returns
returns c = verification-exact
