use Rattle.std.proofs.Common.{◌≡◌, ◌++◌, ◌||◌, [], length}
use Rattle.nmvs_stream.specs.InputLines.{input_lines}
use Rattle.nmvs_json.specs.Replies.{bodies, has_passing, separated}
use Rattle.nmvs_json.proofs.reply.push_answers.Given as goal

abbrev pub invariant-loop-subject : goal.invariant-loop-subject
invariant-loop-subject g l =
    (l.body.items ++ separated l.comma (bodies l.left (input_lines l.rest)) ≡ l.fn.body.items ++ separated [] (bodies l.fn.subjects (input_lines l.fn.text)))
    × ((l.passing || has_passing l.left (input_lines l.rest)) ≡ has_passing l.fn.subjects (input_lines l.fn.text))

abbrev pub decreases-loop-subject : goal.decreases-loop-subject
decreases-loop-subject g l = length l.left
