use Rattle.std.proofs.Common.{rules, ◌≡◌, true, codes, string_bytes}
use Rattle.json.specs.Value.{value_view}
use Rattle.nmvs_json.specs.Questions.{has_scan, names_of, pack_texts, string_of, texts_of}
use Rattle.nmvs_json.specs.Scans.{scan_in}
use Rattle.nmvs_json.proofs.Bodies.{scan_put}
use Rattle.nmvs_json.proofs.question.push_names.Goals as goal

pub returns-then-has_scan-clause-texts : goal.returns-then-has_scan-clause-texts
returns-then-has_scan-clause-texts c =
    let object = value_view c.args.object.now in
    let there : has_scan c.args.kind object ≡ true = search rules in
    scan_put c.push_scan.result (has_scan c.args.kind object) (string_bytes c.args.line.now) (string_bytes c.push_scan.new.line) (λ scan. pack_texts (scan_in scan)) (string_of (codes "scan") object)
    (texts_of (names_of c.args.kind) object) there c.push_scan.ensures.texts
