use Rattle.nmvs_json.proofs.ScanLemmas.{scanned}
use Rattle.nmvs_json.proofs.question.scan_in.Goals as goal

pub returns : goal.returns
returns c = scanned c.args.scan.now c.read_scan.result c.read_scan.ensures
