use Rattle.std.proofs.Common.{ℕ, List, length, subst, arith}
use Rattle.nmvs_elements.specs.Scan.{ReadsString}
use Rattle.nmvs_elements.proofs.Printed.{reads_opened}
use Rattle.nmvs_elements.proofs.Reading.{reads_found}
use Rattle.nmvs_elements.proofs.scan.read_scan.Goals as goal

pub returns : goal.returns
returns c =
    let size = length c.args.scan.now in
    let read = reads_found c.args.nation size c.behind_separator-string.result.now c.in_ok-find_elements.field-0 c.elements_of.result c.in_ok-find_elements.ensures.ok c.elements_of.ensures in
    reads_opened c.args.nation c.args.scan.now c.in_ok-cut_symbology.field-0.now c.elements_of.result (omega (arith, c.if-scan-gt-LONGEST_SCAN.false)) c.in_ok-cut_symbology.ensures.cut
    (subst (λ (y : List ℕ). ReadsString c.args.nation (length c.args.scan.now) y c.elements_of.result) c.behind_separator-string.ensures read)
