use Rattle.nmvs_reception.proofs.RefusalLemmas.{refused-by_role}
use Rattle.nmvs_reception.proofs.laws.who_may_ask.Goals as goal

pub returns : goal.returns
returns c = refused-by_role
