use Rattle.std.proofs.Common.{string_bytes}
use Rattle.json.specs.Value.{value_view}
use Rattle.nmvs_json.specs.Questions.{condition_texts, name_texts, scanned_of, subject_of}
use Rattle.nmvs_json.proofs.Bodies.{subject_put}
use Rattle.nmvs_json.proofs.question.push_subject.Goals as goal

pub returns-clause-texts : goal.returns-clause-texts
unfolding subject_of
returns-clause-texts c =
    let object = value_view c.args.object.now in
    subject_put (string_bytes c.args.line.now) (string_bytes c.push_names.new.line) (string_bytes c.push_condition.new.line) (name_texts c.args.kind object) (scanned_of c.args.kind object) c.in_ok-scanned.scanned
    (λ scanned. condition_texts c.args.kind object scanned) c.in_ok-named.ensures.texts c.in_ok-scanned.ensures.scanned c.in_ok-push_condition.ensures.texts
