-- Printable text is UTF-8, and the kept fields of a line.
use Rattle.std.proofs.Common.{◌≡◌, ◌<◌, ◌≤◌, ◌+◌, ◌-◌, ◌==◌, ℕ, ◌&&◌, true, false, List, [], ◌∷◌, ◌++◌, length, get_or, map, take, drop, Bor, refl, sym, ◌∙◌, ap, subst, add-one, arith}
use Rattle.std.specs.List.{list_all, AllByRecursion}
use Rattle.std.specs.Char.{is_ascii_graphic}
use Rattle.std.specs.Str.{IsUtf8}
use Rattle.std.proofs.lemmas.Bool.{and_parts, eqb-true}
use Rattle.std.proofs.lemmas.Bool.Decides.{nat_tests}
use Rattle.std.proofs.lemmas.List.{length-take, length-drop, length-map, take_all, take-append-drop, take-append-le}
use Rattle.std.proofs.Math.Seq.{drop-cons}
use Rattle.std.proofs.lemmas.List.Elements.{All-from_recursion}
use Rattle.std.proofs.lemmas.List.Folds.{list_all-append}
use Rattle.std.proofs.lemmas.List.Splits.{join_with_byte-slice_split, slice_split_at, slice_split_none}
use Rattle.std.proofs.lemmas.Str.{IsUtf8-from_ascii}
use Rattle.std.proofs.lemmas.Str.Ascii.{IsAscii-from_all}
use Rattle.nmvs_identifier.proofs.PlainTexts.{all_weaker}
use Rattle.nmvs_messages.specs.Fields.{is_printable, is_space, fields_in, line_of_fields}

printable-small : (b : ℕ) → is_printable b ≡ true → b < 128
printable-small b e = grind (arith, nat_tests)

all_small : (x : List ℕ) → list_all is_printable x ≡ true → AllByRecursion (λ b. b < 128) x
all_small [] e = tt
all_small (b ∷ bs) e =
    let parts = and_parts (is_printable b) (list_all is_printable bs) e in
    (printable-small b parts.0, all_small bs parts.1)

-- printable text is UTF-8
pub printable-utf8 : (x : List ℕ) → list_all is_printable x ≡ true → IsUtf8 x
printable-utf8 x e = IsUtf8-from_ascii x (IsAscii-from_all x (All-from_recursion _ x (all_small x e)))

in_field-printable : (b : ℕ) → is_ascii_graphic b ≡ true → is_printable b ≡ true
in_field-printable b e = grind (arith, nat_tests)

in_field-spaceless : (b : ℕ) → is_ascii_graphic b ≡ true → is_space b ≡ false
in_field-spaceless b e = grind (arith, nat_tests)

spaceless : (x : List ℕ) → list_all is_ascii_graphic x ≡ true → AllByRecursion (λ b. is_space b ≡ false) x
spaceless [] e = tt
spaceless (b ∷ bs) e =
    let parts = and_parts (is_ascii_graphic b) (list_all is_ascii_graphic bs) e in
    (in_field-spaceless b parts.0, spaceless bs parts.1)

-- a field is printable, and the one field of its text
pub field_printable : (x : List ℕ) → list_all is_ascii_graphic x ≡ true → list_all is_printable x ≡ true
field_printable x e = all_weaker is_ascii_graphic is_printable in_field-printable x e

pub one_field : (x : List ℕ) → list_all is_ascii_graphic x ≡ true → fields_in x ≡ x ∷ []
one_field x e = slice_split_none is_space x (All-from_recursion _ x (spaceless x e))

-- a text whose bytes were all looked at
pub whole_field : (x : List ℕ) (n : ℕ) → length x ≤ n → list_all is_ascii_graphic (take n x) ≡ true → list_all is_ascii_graphic x ≡ true
whole_field x n all e = ap (list_all is_ascii_graphic) (sym (take_all n x all)) ∙ e

-- a text that goes on after the space behind a field
pub record IsCut (x field behind : List ℕ) : Type 0 where
  pub fields : fields_in x ≡ field ∷ fields_in behind
  pub printable : list_all is_printable x ≡ list_all is_printable behind

joined : (field behind : List ℕ) → list_all is_ascii_graphic field ≡ true → IsCut (field ++ 32 ∷ behind) field behind
joined field behind e = record {
  fields = slice_split_at is_space field 32 behind (All-from_recursion _ field (spaceless field e)) refl;
  printable = list_all-append is_printable field (32 ∷ behind) ∙ ap (λ b. b && list_all is_printable behind) (field_printable field e);
}

pub cut_at : (x : List ℕ) (n : ℕ) → n < length x → get_or x n 0 ≡ 32 → list_all is_ascii_graphic (take n x) ≡ true
    → IsCut x (take n x) (take (length x - (n + 1)) (drop (n + 1) x))
cut_at x n within space e =
    let rest : drop (n + 1) x ≡ take (length x - (n + 1)) (drop (n + 1) x) = sym (take_all (length x - (n + 1)) (drop (n + 1) x) (omega (arith, length-drop (n + 1) x))) in
    let whole : take n x ++ 32 ∷ take (length x - (n + 1)) (drop (n + 1) x) ≡ x =
    (λ i. take n x ++ sym space i ∷ sym rest i) ∙ ap (λ k. take n x ++ get_or x n 0 ∷ drop k x) (add-one n) ∙ ap (λ t. take n x ++ t) (sym (drop-cons x n 0 within)) ∙ take-append-drop n x in
    subst (λ t. IsCut t (take n x) (take (length x - (n + 1)) (drop (n + 1) x))) whole (joined (take n x) (take (length x - (n + 1)) (drop (n + 1) x)) e)

-- ten fields are all that are kept, whatever follows them
pub kept_full : (kept : List (Bor (List ℕ))) (fs gs : List (List ℕ)) → (length kept == 10) ≡ true
    → take 10 (map (λ g. g.now) kept ++ fs) ≡ take 10 (map (λ g. g.now) kept ++ gs)
kept_full kept fs gs full =
    let many : 10 ≤ length (map (λ g. g.now) kept) = omega (arith, eqb-true (length kept) 10 full, length-map kept (λ (g : Bor (List ℕ)). g.now)) in
    take-append-le 10 (map (λ g. g.now) kept) fs many ∙ sym (take-append-le 10 (map (λ g. g.now) kept) gs many)

-- a line with less than ten kept fields has exactly these, and is made of them
pub line_of_kept : (x : List ℕ) (fs : List (List ℕ)) → take 10 (fields_in x) ≡ fs → length fs < 10 → x ≡ line_of_fields fs
line_of_kept x fs kept few =
    let counted = length-take 10 (fields_in x) in
    let same = ap length kept in
    sym (join_with_byte-slice_split 32 x) ∙ ap line_of_fields (sym (take_all 10 (fields_in x) (omega arith)) ∙ kept)

-- the texts of a slice of at least two elements, and of at least four
pub two_first : (ts : List (Bor (List ℕ))) (a b : Bor (List ℕ)) → 2 ≤ length ts
    → map (λ t. t.now) ts ≡ (get_or ts 0 a).now ∷ (get_or ts 1 b).now ∷ map (λ t. t.now) (take (length ts - 2) (drop 2 ts))
two_first [] a b least = absurd (omega arith)
two_first (s ∷ []) a b least = absurd (omega arith)
two_first (s ∷ t ∷ ts) a b least = ap (λ us. s.now ∷ t.now ∷ map (λ u. u.now) us) (sym (take_all (length (s ∷ t ∷ ts) - 2) ts (omega arith)))

pub four_first : (ts : List (Bor (List ℕ))) (a b c d : Bor (List ℕ)) → 4 ≤ length ts
    → map (λ t. t.now) ts ≡ (get_or ts 0 a).now ∷ (get_or ts 1 b).now ∷ (get_or ts 2 c).now ∷ (get_or ts 3 d).now ∷ map (λ t. t.now) (take (length ts - 4) (drop 4 ts))
four_first [] a b c d least = absurd (omega arith)
four_first (s ∷ []) a b c d least = absurd (omega arith)
four_first (s ∷ t ∷ ts) a b c d least =
    let rest : length ts - 2 ≡ length (s ∷ t ∷ ts) - 4 = omega arith in
    ap (λ us. s.now ∷ t.now ∷ us) (two_first ts c d (omega arith) ∙ ap (λ n. (get_or ts 0 c).now ∷ (get_or ts 1 d).now ∷ map (λ u. u.now) (take n (drop 2 ts))) rest)

-- the texts of slices of one, two, four and five elements
pub one : (ts : List (Bor (List ℕ))) (a : Bor (List ℕ)) → 1 ≤ length ts → length ts < 2 → map (λ t. t.now) ts ≡ (get_or ts 0 a).now ∷ []
one [] a least most = absurd (omega arith)
one (s ∷ []) a least most = refl
one (s ∷ t ∷ ts) a least most = absurd (omega arith)

pub two : (ts : List (Bor (List ℕ))) (a b : Bor (List ℕ)) → 2 ≤ length ts → length ts < 3 → map (λ t. t.now) ts ≡ (get_or ts 0 a).now ∷ (get_or ts 1 b).now ∷ []
two [] a b least most = absurd (omega arith)
two (s ∷ []) a b least most = absurd (omega arith)
two (s ∷ t ∷ []) a b least most = refl
two (s ∷ t ∷ u ∷ ts) a b least most = absurd (omega arith)

pub four : (ts : List (Bor (List ℕ))) (a b c d : Bor (List ℕ)) → 4 ≤ length ts → length ts < 5
    → map (λ t. t.now) ts ≡ (get_or ts 0 a).now ∷ (get_or ts 1 b).now ∷ (get_or ts 2 c).now ∷ (get_or ts 3 d).now ∷ []
four [] a b c d least most = absurd (omega arith)
four (s ∷ []) a b c d least most = absurd (omega arith)
four (s ∷ t ∷ ts) a b c d least most = ap (λ us. s.now ∷ t.now ∷ us) (two ts c d (omega arith) (omega arith))

pub five : (ts : List (Bor (List ℕ))) (a b c d e : Bor (List ℕ)) → 5 ≤ length ts → length ts < 6
    → map (λ t. t.now) ts ≡ (get_or ts 0 a).now ∷ (get_or ts 1 b).now ∷ (get_or ts 2 c).now ∷ (get_or ts 3 d).now ∷ (get_or ts 4 e).now ∷ []
five [] a b c d e least most = absurd (omega arith)
five (s ∷ ts) a b c d e least most = ap (λ us. s.now ∷ us) (four ts b c d e (omega arith) (omega arith))
