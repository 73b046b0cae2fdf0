use Rattle.nmvs_rules.proofs.CodeLemmas.{reply-code}
use Rattle.nmvs_rules.proofs.laws.trails.locality.Goals as goal

pub returns : goal.returns
returns c = reply-code
