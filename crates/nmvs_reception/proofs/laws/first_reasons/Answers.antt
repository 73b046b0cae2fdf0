use Rattle.nmvs_reception.proofs.RefusalLemmas.{told-first}
use Rattle.nmvs_reception.proofs.laws.first_reasons.Goals as goal

pub returns : goal.returns
returns c = told-first
