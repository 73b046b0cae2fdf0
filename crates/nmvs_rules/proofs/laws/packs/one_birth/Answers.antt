use Rattle.nmvs_rules.proofs.BirthLemmas.{uploads-known}
use Rattle.nmvs_rules.proofs.laws.packs.one_birth.Goals as goal

pub returns : goal.returns
returns c = uploads-known
