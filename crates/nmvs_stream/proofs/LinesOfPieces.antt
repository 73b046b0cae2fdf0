-- Lines of bytes that come in pieces.
use Rattle.std.proofs.Common.{◌≡◌, ◌==◌, ◌-◌, ◌∙◌, ℕ, suc, true, false, List, [], ◌∷◌, ◌++◌, length, refl, sym, ap, cond, inl, inr, arith, append_assoc, length-append}
use Rattle.std.proofs.lemmas.Bool.{cases_lt, ne_eqb}
use Rattle.std.proofs.lemmas.List.{append-nil, get_or_append_left, get_or-append_right}
use Rattle.nmvs_stream.specs.InputLines.{HasNoLf, lines_after, rest_after, input_lines, unfinished_line}

-- the lines of bytes that come in two pieces, and the bytes after their last LF
pub lines_after-append : (cur xs ys : List ℕ) → lines_after cur (xs ++ ys) ≡ lines_after cur xs ++ lines_after (rest_after cur xs) ys
unfolding lines_after rest_after
lines_after-append cur [] ys = refl
lines_after-append cur (b ∷ bs) ys =
    elim (b == 10) as (λ t. cond t (cur ∷ lines_after [] (bs ++ ys)) (lines_after (cur ++ b ∷ []) (bs ++ ys)) ≡ cond t (cur ∷ lines_after [] bs) (lines_after (cur ++ b ∷ []) bs) ++ lines_after (cond t (rest_after [] bs) (rest_after (cur ++ b ∷ []) bs)) ys) [
      | true ↦ ap (λ r. cur ∷ r) (lines_after-append [] bs ys)
      | false ↦ lines_after-append (cur ++ b ∷ []) bs ys
    ]

pub rest_after-append : (cur xs ys : List ℕ) → rest_after cur (xs ++ ys) ≡ rest_after (rest_after cur xs) ys
unfolding rest_after
rest_after-append cur [] ys = refl
rest_after-append cur (b ∷ bs) ys =
    elim (b == 10) as (λ t. cond t (rest_after [] (bs ++ ys)) (rest_after (cur ++ b ∷ []) (bs ++ ys)) ≡ rest_after (cond t (rest_after [] bs) (rest_after (cur ++ b ∷ []) bs)) ys) [
      | true ↦ rest_after-append [] bs ys
      | false ↦ rest_after-append (cur ++ b ∷ []) bs ys
    ]

-- bytes without LF have none after the first
pub no_lf_tail : (b : ℕ) (bytes : List ℕ) → HasNoLf (b ∷ bytes) → HasNoLf bytes
no_lf_tail b bytes h k lt = h (suc k) (omega (arith, lt))

-- two pieces without LF
pub no_lf_both : (x y : List ℕ) → HasNoLf x → HasNoLf y → HasNoLf (x ++ y)
no_lf_both x y h k i lt e = elim (cases_lt i (length x)) [
  | inl l ↦ h i l (sym (get_or_append_left x y 0 i l) ∙ e)
  | inr r ↦ let n = length-append x y in k (i - length x) (omega (arith, n, lt, r)) (sym (get_or-append_right x y (length x) i 0 refl r) ∙ e)
]

-- bytes without LF end no line
pub no_line : (begun xs : List ℕ) → HasNoLf xs → (lines_after begun xs ≡ []) × (rest_after begun xs ≡ begun ++ xs)
unfolding lines_after rest_after
no_line begun [] none = (refl, sym (append-nil begun))
no_line begun (b ∷ bs) none =
    let no : (b == 10) ≡ false = ne_eqb b 10 (none 0 (omega arith)) in
    let later = no_line (begun ++ b ∷ []) bs (no_lf_tail b bs none) in
    (rw no later.0, rw no (later.1 ∙ append_assoc begun (b ∷ []) bs))

-- the first LF of bytes ends the line that they continue, ..
pub line_cut : {bytes : List ℕ} (begun line behind : List ℕ) → bytes ≡ line ++ 10 ∷ behind → HasNoLf line
    → lines_after begun bytes ≡ (begun ++ line) ∷ input_lines behind
unfolding lines_after
line_cut begun line behind cut one =
    let begins = no_line begun line one in
    ap (lines_after begun) cut ∙ lines_after-append begun line (10 ∷ behind) ∙ (λ i. begins.0 i ++ lines_after (begins.1 i) (10 ∷ behind))

-- .. and the unfinished line is that of the bytes after it
pub left_cut : {bytes : List ℕ} (begun line behind : List ℕ) → bytes ≡ line ++ 10 ∷ behind → HasNoLf line
    → rest_after begun bytes ≡ unfinished_line behind
unfolding rest_after
left_cut begun line behind cut one =
    ap (rest_after begun) cut ∙ rest_after-append begun line (10 ∷ behind) ∙ ap (λ (t : List ℕ). rest_after t (10 ∷ behind)) (no_line begun line one).1
