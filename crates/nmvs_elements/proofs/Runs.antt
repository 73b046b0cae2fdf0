-- Values without separators, and the bytes after them.
use Rattle.std.proofs.Common.{◌≡◌, ◌<◌, ◌≤◌, ◌+◌, ◌==◌, ◌&&◌, ℕ, zero, suc, Bool, true, false, not, List, [], ◌∷◌, ◌++◌, length, get_or, take, drop, Option, Some, None, refl, sym, ap, ◌∙◌, subst, arith, take-append-drop, length-take-le}
use Rattle.std.specs.List.{list_all}
use Rattle.std.specs.Option.{unwrap_or}
use Rattle.std.proofs.lemmas.Bool.{false≢true, and_parts}
use Rattle.std.proofs.lemmas.List.{take_at, drop_at, take-append-le}
use Rattle.std.proofs.lemmas.List.Folds.{list_all-append, list_all_more}
use Rattle.nmvs_elements.specs.Elements.{is_value_byte, IsSeparated, EndsValue}
use Rattle.nmvs_elements.specs.Front.{IsValueBefore}

-- a separator is no part of a value
pub no_separator : (b : ℕ) → is_value_byte b ≡ true → b ≡ 29 → ⊥
no_separator b passes e = false≢true (ap is_value_byte (sym e) ∙ passes)

-- two lists that begin with as many bytes, and are the same
pub same_halves : (p q r s : List ℕ) → length p ≡ length q → p ++ r ≡ q ++ s → (p ≡ q) × (r ≡ s)
same_halves p q r s long e = (
  sym (take_at p r (length p) refl) ∙ ap (take (length p)) e ∙ take_at q s (length p) (sym long),
  sym (drop_at p r (length p) refl) ∙ ap (drop (length p)) e ∙ drop_at q s (length p) (sym long),
)

-- bytes are in one way a run without separators, and a separator or nothing after it
pub same_runs : (v w b c : List ℕ) → list_all is_value_byte v ≡ true → list_all is_value_byte w ≡ true → IsSeparated b → IsSeparated c → v ++ b ≡ w ++ c → (v ≡ w) × (b ≡ c)
same_runs [] [] b c pv pw sb sc e = (refl, e)
same_runs [] (y ∷ w) [] c pv pw sb sc e = absurd cc
same_runs [] (y ∷ w) (x ∷ b) c pv pw sb sc e =
    let heads : x ≡ y = cc in
    absurd (no_separator y ((and_parts (is_value_byte y) (list_all is_value_byte w) pw).0) (sym heads ∙ sb))
same_runs (x ∷ v) [] b [] pv pw sb sc e = absurd cc
same_runs (x ∷ v) [] b (y ∷ c) pv pw sb sc e =
    let heads : x ≡ y = cc in
    absurd (no_separator x ((and_parts (is_value_byte x) (list_all is_value_byte v) pv).0) (heads ∙ sc))
same_runs (x ∷ v) (y ∷ w) b c pv pw sb sc e =
    let heads : x ≡ y = cc in
    let tails : v ++ b ≡ w ++ c = cc in
    let later = same_runs v w b c ((and_parts (is_value_byte x) (list_all is_value_byte v) pv).1) ((and_parts (is_value_byte y) (list_all is_value_byte w) pw).1) sb sc tails in
    ((λ i. heads i ∷ later.0 i), later.1)

-- and in one way a value that ends by its length, or at a separator, and the bytes after it
pub same_values : (predefined : Option ℕ) (v w b c : List ℕ) → list_all is_value_byte v ≡ true → list_all is_value_byte w ≡ true → EndsValue predefined v b → EndsValue predefined w c → v ++ b ≡ w ++ c
    → (v ≡ w) × (b ≡ c)
same_values (Some n) v w b c pv pw ev ew e = same_halves v w b c (ev ∙ sym ew) e
same_values None v w b c pv pw ev ew e = same_runs v w b c pv pw ev ew e

-- a run without separators is no longer than the bytes before a separator or the end
pub no_longer : (v w b c : List ℕ) → list_all is_value_byte v ≡ true → IsSeparated c → v ++ b ≡ w ++ c → length w < length v → ⊥
no_longer [] w b c pv sc e long = omega arith
no_longer (x ∷ v) [] b [] pv sc e long = cc
no_longer (x ∷ v) [] b (y ∷ c) pv sc e long =
    let heads : x ≡ y = cc in
    no_separator x ((and_parts (is_value_byte x) (list_all is_value_byte v) pv).0) (heads ∙ sc)
no_longer (x ∷ v) (y ∷ w) b c pv sc e long =
    let tails : v ++ b ≡ w ++ c = cc in
    no_longer v w b c ((and_parts (is_value_byte x) (list_all is_value_byte v) pv).1) sc tails (omega arith)

not_from : (t : Bool) → (t ≡ true → ⊥) → not t ≡ true
not_from true h = absurd (h refl)
not_from false h = refl

-- the bytes before the first separator have none
pub run_before : (bytes : List ℕ) (n : ℕ) → n ≤ length bytes → ((k : ℕ) → k < n → (get_or bytes k 0 == 29) ≡ true → ⊥) → list_all is_value_byte (take n bytes) ≡ true
run_before bytes zero within none = refl
run_before bytes (suc n) within none =
    let below : n < length bytes = omega arith in
    let front = run_before bytes n (omega arith) (λ k h. none k (omega arith)) in
    let here = not_from (get_or bytes n 0 == 29) (none n (omega arith)) in
    ap (λ m. list_all is_value_byte (take m bytes)) (suc_is n) ∙ list_all_more is_value_byte bytes n 0 below ∙ (λ i. front i && here i)
  where
    suc_is : (n : ℕ) → suc n ≡ n + 1
    suc_is n = omega arith

-- nor has a shorter part of them
pub shorter_run : (bytes : List ℕ) (m n : ℕ) → m ≤ n → n ≤ length bytes → list_all is_value_byte (take n bytes) ≡ true → list_all is_value_byte (take m bytes) ≡ true
shorter_run bytes m n short within all =
    let inside : m ≤ length (take n bytes) = omega (arith, length-take-le n bytes within) in
    let front : take m bytes ≡ take m (take n bytes) = ap (take m) (sym (take-append-drop n bytes)) ∙ take-append-le m (take n bytes) (drop n bytes) inside in
    let parts : list_all is_value_byte (take m (take n bytes) ++ drop m (take n bytes)) ≡ true = ap (list_all is_value_byte) (take-append-drop m (take n bytes)) ∙ all in
    ap (list_all is_value_byte) front
    ∙ (and_parts (list_all is_value_byte (take m (take n bytes))) (list_all is_value_byte (drop m (take n bytes)))
    (sym (list_all-append is_value_byte (take m (take n bytes)) (drop m (take n bytes))) ∙ parts)).0

-- the content is a value and the bytes after it, if it has as many bytes before a separator
pub value_before : (predefined : Option ℕ) (content value behind : List ℕ) (stop size : ℕ) → stop ≤ length content → list_all is_value_byte (take stop content) ≡ true → IsSeparated (drop stop content)
    → size ≡ unwrap_or predefined stop → size ≤ stop → value ≡ take size content → behind ≡ drop size content → IsValueBefore predefined content value behind
value_before predefined content value behind stop size within run separated sized short front back = record {
  these = sym (take-append-drop size content) ∙ (λ i. sym front i ++ sym back i);
  one_piece = ap (list_all is_value_byte) front ∙ shorter_run content size stop short within run;
  ends = ending predefined sized;
}
  where
    ending : (p : Option ℕ) → size ≡ unwrap_or p stop → EndsValue p value behind
    ending None e = subst IsSeparated (ap (λ m. drop m content) (sym e) ∙ sym back) separated
    ending (Some n) e = ap length front ∙ length-take-le size content (omega arith) ∙ e

pub no_value : (predefined : Option ℕ) (content : List ℕ) (stop size : ℕ) → stop ≤ length content → IsSeparated (drop stop content)
    → size ≡ unwrap_or predefined stop → stop < size → (value behind : List ℕ) → IsValueBefore predefined content value behind → ⊥
no_value None content stop size within separated sized long value behind is = omega (arith, sized)
no_value (Some n) content stop size within separated sized long value behind is =
    no_longer value (take stop content) behind (drop stop content) is.one_piece separated (sym is.these ∙ sym (take-append-drop stop content))
    (omega (arith, length-take-le stop content within, is.ends, sized))
