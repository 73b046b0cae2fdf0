-- Escaped texts.
use Rattle.std.proofs.Common.{◌≡◌, ◌∙◌, ap₂, refl, arith, ℕ, ◌==◌, Bool, true, ◌&&◌, List, [], ◌∷◌}
use Rattle.std.specs.List.{list_all}
use Rattle.std.proofs.lemmas.Bool.Decides.{nat_tests}
use Rattle.std.proofs.lemmas.List.Folds.{list_all-append}
use Rattle.nmvs_inspect.specs.Html.{escape, escaped, is_plain}

escape_plain : (b : ℕ) → list_all is_plain (escape b) ≡ true
escape_plain b = grind (arith, nat_tests)

-- none of their bytes is a quote or begins or ends a tag
pub escaped_plain : (t : List ℕ) → list_all is_plain (escaped t) ≡ true
escaped_plain [] = refl
escaped_plain (b ∷ t) = list_all-append is_plain (escape b) (escaped t) ∙ ap₂ (λ (x y : Bool). x && y) (escape_plain b) (escaped_plain t)
