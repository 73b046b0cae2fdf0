use Rattle.nmvs_parts.proofs.PartLemmas.{parts-whole, first-whole}
use Rattle.nmvs_parts.proofs.laws.parts_laws.Goals as goal

pub returns-clause-accepted : goal.returns-clause-accepted
returns-clause-accepted c = parts-whole

pub returns-clause-refused : goal.returns-clause-refused
returns-clause-refused c = first-whole
