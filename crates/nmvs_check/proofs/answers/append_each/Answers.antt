use Rattle.std.proofs.Common.{◌++◌, ◌∙◌, List, ℕ, take, get_or, string_bytes, sym, ap, ap₂, append_assoc}
use Rattle.std.specs.List.{flat_map}
use Rattle.nmvs_check.specs.Answers.{about}
use Rattle.nmvs_check.proofs.AnswerLemmas.{lines-next}
use Rattle.nmvs_check.proofs.answers.append_each.Goals as goal

pub loop-code-preserved : goal.loop-code-preserved
loop-code-preserved c =
    let t = c.args.shard.now in
    let w = c.args.whole in
    let cs = c.args.codes.now in
    let i = c.loop-code.code-index in
    let front = flat_map (about t w) (take i cs) in
    c.in_ok-push_str.ensures.bytes
    ∙ ap₂ (λ (x y : List ℕ). x ++ y) c.loop-code.invariant (c.deref.ensures ∙ c.in_ok-told.ensures ∙ ap (about t w) c.code-item.is)
    ∙ append_assoc (string_bytes c.args.text.now) front (about t w (get_or cs i c.code-item.result))
    ∙ ap (λ (x : List ℕ). string_bytes c.args.text.now ++ x) (sym (lines-next (about t w) cs i c.code-item.result c.loop-code-test.true))
