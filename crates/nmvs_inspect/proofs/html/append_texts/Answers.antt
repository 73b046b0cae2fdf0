use Rattle.std.proofs.Common.{◌∙◌, ◌++◌, ap, sym, List, ℕ, Bor}
use Rattle.std.specs.List.{flat_map}
use Rattle.std.proofs.lemmas.List.{take_all}
use Rattle.std.proofs.lemmas.List.Folds.{flat_map-map}
use Rattle.nmvs_inspect.specs.Html.{cell}
use Rattle.nmvs_inspect.proofs.html.append_texts.Goals as goal

pub returns : goal.returns
returns c =
    let old = c.args.block.now.items in
    let xs = c.args.texts.now in
    c.loop-i.invariant ∙ ap (λ (ys : List (Bor (List ℕ))). old ++ flat_map (λ (t : Bor (List ℕ)). cell t.now) ys) (take_all c.loop-i.i xs c.loop-i-test.false)
    ∙ ap (λ (x : List ℕ). old ++ x) (sym (flat_map-map cell (λ (t : Bor (List ℕ)). t.now) xs))
