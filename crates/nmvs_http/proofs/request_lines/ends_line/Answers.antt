use Rattle.std.proofs.Common.{◌≡◌, ◌==◌, ◌∙◌, ℕ, true, false, List, [], ◌∷◌, ◌++◌, length, refl, sym, ap, cond, arith, length-append}
use Rattle.std.proofs.lemmas.Bool.{ne_eqb}
use Rattle.nmvs_stream.specs.InputLines.{rest_after}
use Rattle.nmvs_stream.proofs.LinesOfPieces.{rest_after-append}
use Rattle.nmvs_http.specs.RequestLines.{ends_line}
use Rattle.nmvs_http.proofs.request_lines.ends_line.Goals as goal

none_ends : ends_line [] ≡ true
unfolding ends_line rest_after
none_ends = refl

not_empty : (xs : List ℕ) (b : ℕ) → (length (xs ++ b ∷ []) == 0) ≡ false
not_empty xs b = ne_eqb (length (xs ++ b ∷ [])) 0 (λ none. let n = length-append xs (b ∷ []) in omega (arith, n, none))

ends_none : (xs : List ℕ) → length xs ≡ 0 → true ≡ ends_line xs
ends_none [] none = sym none_ends
ends_none (x ∷ xs) none = absurd (cc none)

last_ends : (front : List ℕ) (b : ℕ) → ends_line (front ++ b ∷ []) ≡ (b == 10)
unfolding ends_line rest_after
last_ends front b =
    let begun = rest_after [] front in
    ap (λ (t : List ℕ). length t == 0) (rest_after-append [] front (b ∷ []))
    ∙ elim (b == 10) as (λ t. (length (cond t [] (begun ++ b ∷ [])) == 0) ≡ t) [
      | true ↦ refl
      | false ↦ not_empty begun b
    ]

pub returns-in-None : goal.returns-in-None
returns-in-None c = ends_none c.args.body.now c.in-None.ensures.cases

pub returns-in-Some : goal.returns-in-Some
returns-in-Some c =
    sym (ap (λ (t : List ℕ). ends_line t) c.in-Some.ensures.cases.0 ∙ last_ends c.in-Some.field-0-1.now c.in-Some.last.now)
