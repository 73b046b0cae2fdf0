use Rattle.nmvs_elements.proofs.Lost.{lost_seen}
use Rattle.nmvs_elements.proofs.OneReading.{one_reading}
use Rattle.nmvs_elements.proofs.Packs.{pieces}
use Rattle.nmvs_elements.proofs.Printed.{scans_are_read as each_is_read}
use Rattle.nmvs_elements.proofs.laws.scans_are_read.Goals as goal

pub returns-clause-read : goal.returns-clause-read
returns-clause-read c = each_is_read

pub returns-clause-lost : goal.returns-clause-lost
returns-clause-lost c = lost_seen

pub returns-clause-one : goal.returns-clause-one
returns-clause-one c = one_reading

pub returns-clause-pieces : goal.returns-clause-pieces
returns-clause-pieces c = pieces
