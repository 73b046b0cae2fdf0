use Rattle.std.proofs.Common.{◌∙◌, ◌∷◌, ◌++◌, [], ap₂, List, ℕ}
use Rattle.std.specs.Prelude.{codes}
use Rattle.std.proofs.lemmas.Result.{on_ok_weaker}
use Rattle.nmvs_inspect.specs.Rows.{reply_cells, row}
use Rattle.nmvs_inspect.proofs.story.append_status.Goals as goal

pub returns : goal.returns
returns c =
    let form = c.args.form in
    let cells : List ℕ → List ℕ → List (List ℕ) =
    λ x y. (codes "at the end" ∷ [] ∷ [] ∷ [] ∷ [] ∷ codes "STATUS" ∷ x ∷ y ∷ [] ∷ []) ++ reply_cells form c.args.status.now in
    on_ok_weaker c.append_replied.result
    (λ h. h ∙ ap₂ (λ (x y : List ℕ). c.args.block.now.items ++ row form (cells x y)) (c.as_bytes.ensures.value ∙ c.text.ensures.text) (c.as_bytes-2.ensures.value ∙ c.text-2.ensures.text))
    c.append_replied.ensures
