use Rattle.std.proofs.Common.{◌∙◌, sym, Ok}
use Rattle.nmvs_check.proofs.ScanLemmas.{line_reads}
use Rattle.nmvs_check.proofs.scans.read_line.Goals as goal

pub returns-in-Ok : goal.returns-in-Ok
returns-in-Ok c = line_reads c.args.nation c.args.line.now (Ok c.in-Ok.pack) (sym c.is_empty.ensures ∙ c.if-is_empty.false) c.in-Ok.ensures
