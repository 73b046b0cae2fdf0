use Rattle.std.proofs.Common.{rules, ◌≡◌, ◌+◌, ◌==◌, ◌∙◌, ◌++◌, ℕ, List, Some, codes, string_bytes, ap, arith, eq-eqb}
use Rattle.json.specs.Value.{value_view}
use Rattle.nmvs_json.specs.Questions.{count_of, fields_of, subject_count, subject_of, user_of, word_of}
use Rattle.nmvs_json.proofs.Bodies.{line_counted}
use Rattle.nmvs_json.proofs.question.push_fields.Goals as goal

pub returns-clause-fields : goal.returns-clause-fields
unfolding fields_of
returns-clause-fields c =
    let object = value_view c.args.object.now in
    let counted : count_of object ≡ c.args.others + subject_count c.args.kind object = omega (arith, c.count_of.ensures, c.subject_count.ensures.count, c.if-count_of-others.false) in
    let user : user_of object ≡ Some c.in_ok-user.user.now = search rules in
    line_counted (count_of object == c.args.others + subject_count c.args.kind object) (string_bytes c.args.line.now) c.in_ok-user.user.now (word_of c.args.kind) (string_bytes c.push_str-3.new.self)
    (string_bytes c.push_subject.new.line) (string_bytes c.push_str-4.new.self) (user_of object) (subject_of c.args.kind object) (eq-eqb (count_of object) (c.args.others + subject_count c.args.kind object) counted) user
    (c.in_ok-push_str-3.ensures.bytes ∙ (λ i. (c.in_ok-push_str-2.ensures.bytes ∙ ap (λ (t : List ℕ). t ++ codes " ") c.in_ok-push_str.ensures.bytes) i ++ c.word.ensures i))
    c.in_ok-subject.ensures.texts c.in_ok-push_str-4.ensures.bytes
