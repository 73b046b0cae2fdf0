use Rattle.std.proofs.Common.{rules, ◌≡◌, ◌&&◌, ◌||◌, true, false, not, codes, string_bytes}
use Rattle.json.specs.Value.{value_view}
use Rattle.nmvs_json.specs.Questions.{condition_texts, has_condition, is_matching, is_misread, shown_texts, string_of}
use Rattle.nmvs_json.proofs.Bodies.{if_put}
use Rattle.nmvs_json.proofs.question.push_condition.Goals as goal

pub returns-clause-texts : goal.returns-clause-texts
unfolding condition_texts
returns-clause-texts c =
    let object = value_view c.args.object.now in
    let goes : (has_condition c.args.kind object && not (is_matching (string_of (codes "if_scanned") object))) ≡ false = search rules in
    let there : (has_condition c.args.kind object || is_misread c.args.kind object c.args.scanned.now) ≡ true = search rules in
    if_put (has_condition c.args.kind object && not (is_matching (string_of (codes "if_scanned") object))) (has_condition c.args.kind object || is_misread c.args.kind object c.args.scanned.now)
    (string_bytes c.args.line.now) (string_bytes c.push_str.new.self) (string_bytes c.push_shown.new.line) (shown_texts c.args.kind object c.args.scanned.now) goes there c.in_ok-push_str.ensures.bytes c.in_ok-push_shown.ensures.texts
