use Rattle.std.proofs.Common.{rules, ◌≡◌, ◌∙◌, ◌++◌, ◌∷◌, [], List, ℕ, ap}
use Rattle.std.proofs.lemmas.List.{nil_from_length}
use Rattle.nmvs_stream.specs.InputLines.{input_lines}
use Rattle.nmvs_json.specs.Replies.{body_where, first_line, first_word, places_of}
use Rattle.nmvs_json.proofs.BulkLemmas.{body_more, no_bodies, no_passing, passing_more}
use Rattle.nmvs_json.proofs.ReplyLemmas.{no_lines, text_put, texts_put}
use Rattle.nmvs_json.proofs.reply.push_answers.Goals as goal

pub loop-subject-preserved : goal.loop-subject-preserved
loop-subject-preserved g c =
    let some : c.loop-subject.left.now ≡ c.in-Some.subject.now ∷ c.in-Some.others.now = search rules in
    let its = c.in-Some.subject.now in
    let line = c.first_line.ensures.line in
    let lines = input_lines c.loop-subject.rest.now in
    let same : body_where (places_of (first_word c.first_line.result.0.now)) its c.first_line.result.0.now (input_lines []) ≡ body_where (places_of (first_word (first_line lines))) its (first_line lines) [] =
    λ i. body_where (places_of (first_word (line i))) its (line i) (no_lines i) in (
      text_put _ c.extend_from_slice.new.self.items _ c.loop-subject.comma.now _ _ _ _ c.in_ok-extend_from_slice.ensures.items
          (c.in_ok-problem.ensures.body ∙ ap (λ (t : List ℕ). c.extend_from_slice.new.self.items ++ t) same)
          (body_more c.loop-subject.left.now c.in-Some.others.now its lines (input_lines c.first_line.result.1.now) some c.first_line.ensures.later) c.loop-subject.invariant.0,
      passing_more c.loop-subject.left.now c.in-Some.others.now its lines (input_lines c.first_line.result.1.now) c.loop-subject.passing _ _ some c.first_line.ensures.later (search rules) c.loop-subject.invariant.1,
    )

pub returns-clause-passing : goal.returns-clause-passing
returns-clause-passing g c =
    let none : c.loop-subject.left.now ≡ [] = nil_from_length c.loop-subject.left.now c.in_default.ensures.cases in
    no_passing c.loop-subject.left.now (input_lines c.loop-subject.rest.now) _ _ none c.loop-subject.invariant.1

pub returns-clause-body : goal.returns-clause-body
returns-clause-body g c =
    let none : c.loop-subject.left.now ≡ [] = nil_from_length c.loop-subject.left.now c.in_default.ensures.cases in
    texts_put _ c.loop-subject.comma.now _ _ (no_bodies c.loop-subject.left.now (input_lines c.loop-subject.rest.now) none) c.loop-subject.invariant.0
