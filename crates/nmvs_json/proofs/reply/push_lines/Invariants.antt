use Rattle.std.proofs.Common.{◌≡◌, ◌++◌, [], length}
use Rattle.nmvs_stream.specs.InputLines.{input_lines}
use Rattle.nmvs_json.specs.Replies.{separated}
use Rattle.nmvs_json.proofs.reply.push_lines.Given as goal

abbrev pub invariant-loop-line : goal.invariant-loop-line
invariant-loop-line g l =
    l.body.items ++ separated l.comma (input_lines l.rest) ≡ l.fn.body.items ++ separated [] (input_lines l.fn.lines)

abbrev pub decreases-loop-line : goal.decreases-loop-line
decreases-loop-line g l = length l.rest
