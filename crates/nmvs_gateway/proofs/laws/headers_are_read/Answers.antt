use Rattle.nmvs_gateway.proofs.OneReading.{one_reading, looks_not_behind, ends_there}
use Rattle.nmvs_gateway.proofs.laws.headers_are_read.Goals as goal

pub returns-clause-one : goal.returns-clause-one
returns-clause-one c = one_reading

pub returns-clause-behind : goal.returns-clause-behind
returns-clause-behind c = looks_not_behind

pub returns-clause-end : goal.returns-clause-end
returns-clause-end c = ends_there
