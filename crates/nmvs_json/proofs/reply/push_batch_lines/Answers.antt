use Rattle.std.proofs.Common.{rules, ◌≡◌, ◌∙◌, [], true, false, List, ℕ, ap, codes, sym, ◌++◌}
use Rattle.std.specs.Str.{bytes_eq}
use Rattle.nmvs_stream.proofs.LinesOfPieces.{line_cut, no_line}
use Rattle.nmvs_json.specs.Replies.{batch_object, batch_objects, first_word, later_words}
use Rattle.nmvs_json.proofs.ReplyLemmas.{batch_more, batches_end, no_batches, text_put, texts_put}
use Rattle.nmvs_json.proofs.reply.push_batch_lines.Goals as goal

pub returns-then-ne : goal.returns-then-ne
returns-then-ne g c =
    let cut = c.in-Some.ensures in
    let line = c.in-Some.line.now in
    let other : bytes_eq c.cut_word.result.0.now (codes "BATCH") ≡ false = search rules in
    let word = c.cut_word.ensures.first ∙ ap first_word c.untagged.ensures in
    texts_put _ c.loop-line.front.now _ _
    (ap batch_objects (line_cut [] line c.in-Some.after.now cut.cut cut.whole) ∙ batches_end line _ (ap (λ (w : List ℕ). bytes_eq w (codes "BATCH")) (sym word) ∙ other))
    c.loop-line.invariant

pub loop-line-preserved : goal.loop-line-preserved
loop-line-preserved g c =
    let cut = c.in-Some.ensures in
    let line = c.in-Some.line.now in
    let its : bytes_eq c.cut_word.result.0.now (codes "BATCH") ≡ true = search rules in
    let word = c.cut_word.ensures.first ∙ ap first_word c.untagged.ensures in
    let words = c.cut_word.ensures.later ∙ ap later_words c.untagged.ensures in
    text_put _ _ _ c.loop-line.front.now _ _ _ _ c.in_ok-extend_from_slice.ensures.items
    (c.in_ok-push_batch.ensures ∙ ap (λ (w : List ℕ). c.extend_from_slice.new.self.items ++ batch_object w) words)
    (ap batch_objects (line_cut [] line c.in-Some.after.now cut.cut cut.whole) ∙ batch_more line _ (ap (λ (w : List ℕ). bytes_eq w (codes "BATCH")) (sym word) ∙ its))
    c.loop-line.invariant

pub returns : goal.returns
returns g c =
    texts_put _ c.loop-line.front.now _ _ (ap batch_objects (no_line [] c.loop-line.rest.now c.in_default.ensures.none).0 ∙ no_batches) c.loop-line.invariant
