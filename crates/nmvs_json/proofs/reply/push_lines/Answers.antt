use Rattle.std.proofs.Common.{[]}
use Rattle.nmvs_stream.proofs.LinesOfPieces.{line_cut, no_line}
use Rattle.nmvs_json.proofs.ReplyLemmas.{text_put, texts_put}
use Rattle.nmvs_json.proofs.reply.push_lines.Goals as goal

pub loop-line-preserved : goal.loop-line-preserved
loop-line-preserved g c =
    let cut = c.in-Some.ensures in
    text_put _ _ _ c.loop-line.comma.now c.in-Some.line.now _ _ _ c.in_ok-extend_from_slice.ensures.items c.in_ok-extend_from_slice-2.ensures.items
    (line_cut [] c.in-Some.line.now c.in-Some.after.now cut.cut cut.whole) c.loop-line.invariant

pub returns : goal.returns
returns g c = texts_put _ c.loop-line.comma.now _ _ (no_line [] c.loop-line.rest.now c.in_default.ensures.none).0 c.loop-line.invariant
