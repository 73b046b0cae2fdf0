use Rattle.std.proofs.Common.{◌∙◌, [], List, ℕ, ap, drop, sym}
use Rattle.nmvs_stream.proofs.LinesOfPieces.{line_cut, no_line}
use Rattle.nmvs_json.specs.Replies as specs
use Rattle.nmvs_json.proofs.ReplyLemmas.{no_lines}
use Rattle.nmvs_json.proofs.reply.first_line.Goals as goal

pub returns-in-Some-clause-line : goal.returns-in-Some-clause-line
returns-in-Some-clause-line c =
    let cut = c.in-Some.ensures in
    c.untagged.ensures ∙ sym (ap specs.first_line (line_cut [] c.in-Some.line.now c.in-Some.later.now cut.cut cut.whole))

pub returns-in-Some-clause-later : goal.returns-in-Some-clause-later
returns-in-Some-clause-later c =
    let cut = c.in-Some.ensures in sym (ap (λ (ls : List (List ℕ)). drop 1 ls) (line_cut [] c.in-Some.line.now c.in-Some.later.now cut.cut cut.whole))

pub returns-in-None-clause-line : goal.returns-in-None-clause-line
returns-in-None-clause-line c = sym (ap specs.first_line (no_line [] c.args.text.now c.in-None.ensures.none).0)

pub returns-in-None-clause-later : goal.returns-in-None-clause-later
returns-in-None-clause-later c = no_lines ∙ sym (ap (λ (ls : List (List ℕ)). drop 1 ls) (no_line [] c.args.text.now c.in-None.ensures.none).0)
