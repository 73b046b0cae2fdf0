use Rattle.nmvs_json.proofs.ScanLemmas.{scans_read}
use Rattle.nmvs_json.proofs.laws.scans_are_computed.Goals as goal

pub returns : goal.returns
returns c = scans_read
