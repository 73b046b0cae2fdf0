-- Texts that the grammars accept are plain.
use Rattle.std.proofs.Common.{◌≡◌, ◌≤◌, ◌&&◌, ◌==◌, not, ℕ, Bool, true, nat_eq, nat_le, List, [], ◌∷◌, length, refl, ap, sym, ◌∙◌, inl, inr, codes, arith}
use Rattle.std.specs.List.{list_all, list_any, join_with_byte}
use Rattle.std.specs.Char.{is_ascii_graphic, is_ascii_digit, is_ascii_alphanumeric}
use Rattle.std.proofs.lemmas.Bool.{and_parts, or_cases, eqb-true}
use Rattle.std.proofs.lemmas.Bool.Decides.{nat_tests}
use Rattle.std.proofs.lemmas.List.Folds.{list_all-append}
use Rattle.std.proofs.lemmas.List.Splits.{join_with_byte-slice_split}
use Rattle.nmvs_identifier.specs.Texts.{longest_text}
use Rattle.nmvs_identifier.specs.Characters.{character_set_82, is_in_set_82, is_name_character}
use Rattle.nmvs_identifier.specs.Name.{is_name, begins_alphanumeric, has_name_characters}
use Rattle.nmvs_identifier.specs.ProductCode.{is_product_code, is_checked}
use Rattle.nmvs_identifier.specs.Codes.{longest_codes, codes_in, is_company_prefix, is_code_or_prefix, is_codes}
use Rattle.nmvs_identifier.specs.Serial.{is_serial}
use Rattle.nmvs_identifier.specs.Tag.{is_tag, longest_tag}
use Rattle.nmvs_identifier.specs.Batch.{is_batch}
use Rattle.nmvs_identifier.specs.Expiry.{is_expiry, has_month, has_day}

-- a visible ASCII character other than the backslash
abbrev pub is_plain : ℕ → Bool
is_plain b = is_ascii_graphic b && not (b == 92)

-- a text of 1 to 20 of them
abbrev pub IsPlain : List ℕ → Type 0
IsPlain t = (1 ≤ length t) × (length t ≤ longest_text) × (list_all is_plain t ≡ true)

-- a text that passes a test passes a weaker one
pub all_weaker : (p q : ℕ → Bool) → ((b : ℕ) → p b ≡ true → q b ≡ true) → (t : List ℕ) → list_all p t ≡ true → list_all q t ≡ true
all_weaker p q each [] e = refl
all_weaker p q each (b ∷ bs) e =
    let parts = and_parts (p b) (list_all p bs) e in
    λ i. each b parts.0 i && all_weaker p q each bs parts.1 i

-- a byte that is one of a list passes a test that all of the list pass
one_of : (q : ℕ → Bool) (b : ℕ) (xs : List ℕ) → list_all q xs ≡ true → list_any (nat_eq b) xs ≡ true → q b ≡ true
one_of q b [] all e = absurd cc
one_of q b (x ∷ xs) all e =
    let parts = and_parts (q x) (list_all q xs) all in
    elim (or_cases (nat_eq b x) (list_any (nat_eq b) xs) e) [
      | inl same ↦ ap q (eqb-true b x same) ∙ parts.0
      | inr later ↦ one_of q b xs parts.1 later
    ]

digit_plain : (b : ℕ) → is_ascii_digit b ≡ true → is_plain b ≡ true
digit_plain b e = grind (arith, nat_tests)

alphanumeric_plain : (b : ℕ) → is_ascii_alphanumeric b ≡ true → is_plain b ≡ true
alphanumeric_plain b e = grind (arith, nat_tests)

set_82_plain : (b : ℕ) → is_in_set_82 b ≡ true → is_plain b ≡ true
set_82_plain b e = one_of is_plain b character_set_82 refl e

name_plain : (b : ℕ) → is_name_character b ≡ true → is_plain b ≡ true
name_plain b e =
    elim (or_cases (is_ascii_alphanumeric b) _ e) [
      | inl letter ↦ alphanumeric_plain b letter
      | inr mark ↦ one_of is_plain b (codes "._-") refl mark
    ]

at_least_one : (n : ℕ) → nat_le 1 n ≡ true → 1 ≤ n
at_least_one n e = grind (arith, nat_tests)

at_most : (most n : ℕ) → nat_le n most ≡ true → n ≤ most
at_most most n e = grind (arith, nat_tests)

-- names, numbers and dates in their grammars are plain
pub plain_name : (t : List ℕ) → is_name t ≡ true → IsPlain t
plain_name t e =
    let halves = and_parts (nat_le 1 (length t) && nat_le (length t) longest_text) (has_name_characters t) e in
    let bounds = and_parts (nat_le 1 (length t)) (nat_le (length t) longest_text) halves.0 in
    let characters = and_parts (begins_alphanumeric t) (list_all is_name_character t) halves.1 in
    (at_least_one (length t) bounds.0, at_most longest_text (length t) bounds.1, all_weaker is_name_character is_plain name_plain t characters.1)

-- a tag is plain, and has at most 40 characters
pub plain_tag : (t : List ℕ) → is_tag t ≡ true → (1 ≤ length t) × (length t ≤ longest_tag) × (list_all is_plain t ≡ true)
plain_tag t e =
    let halves = and_parts (nat_le 1 (length t) && nat_le (length t) longest_tag) (has_name_characters t) e in
    let bounds = and_parts (nat_le 1 (length t)) (nat_le (length t) longest_tag) halves.0 in
    let characters = and_parts (begins_alphanumeric t) (list_all is_name_character t) halves.1 in
    (at_least_one (length t) bounds.0, at_most longest_tag (length t) bounds.1, all_weaker is_name_character is_plain name_plain t characters.1)

pub plain_code : (t : List ℕ) → is_product_code t ≡ true → IsPlain t
plain_code t e =
    let halves = and_parts ((length t == 14) && list_all is_ascii_digit t) (is_checked t) e in
    let digits = and_parts (length t == 14) (list_all is_ascii_digit t) halves.0 in
    let exact = eqb-true (length t) 14 digits.0 in
    (omega (arith, exact), omega (arith, exact), all_weaker is_ascii_digit is_plain digit_plain t digits.1)

pub plain_expiry : (t : List ℕ) → is_expiry t ≡ true → IsPlain t
plain_expiry t e =
    let month = and_parts ((length t == 6) && list_all is_ascii_digit t && has_month t) (has_day t) e in
    let halves = and_parts ((length t == 6) && list_all is_ascii_digit t) (has_month t) month.0 in
    let digits = and_parts (length t == 6) (list_all is_ascii_digit t) halves.0 in
    let exact = eqb-true (length t) 6 digits.0 in
    (omega (arith, exact), omega (arith, exact), all_weaker is_ascii_digit is_plain digit_plain t digits.1)

pub plain_serial : (t : List ℕ) → is_serial t ≡ true → IsPlain t
plain_serial t e =
    let halves = and_parts (nat_le 1 (length t) && nat_le (length t) longest_text) (list_all is_in_set_82 t) e in
    let bounds = and_parts (nat_le 1 (length t)) (nat_le (length t) longest_text) halves.0 in
    (at_least_one (length t) bounds.0, at_most longest_text (length t) bounds.1, all_weaker is_in_set_82 is_plain set_82_plain t halves.1)

pub plain_batch : (t : List ℕ) → is_batch t ≡ true → IsPlain t
plain_batch t e = plain_serial t e

prefix_plain : (t : List ℕ) → is_company_prefix t ≡ true → list_all is_plain t ≡ true
prefix_plain t e =
    let digits = and_parts (nat_le 4 (length t) && nat_le (length t) 12) (list_all is_ascii_digit t) e in
    all_weaker is_ascii_digit is_plain digit_plain t digits.1

code_or_prefix_plain : (t : List ℕ) → is_code_or_prefix t ≡ true → list_all is_plain t ≡ true
code_or_prefix_plain t e =
    elim (or_cases (is_product_code t) (is_company_prefix t) e) [
      | inl code ↦ (plain_code t code).2
      | inr prefix ↦ prefix_plain t prefix
    ]

joined_plain : (ts : List (List ℕ)) → list_all is_code_or_prefix ts ≡ true → list_all is_plain (join_with_byte 44 ts) ≡ true
joined_plain [] e = refl
joined_plain (t ∷ []) e = code_or_prefix_plain t (and_parts (is_code_or_prefix t) true e).0
joined_plain (t ∷ u ∷ ts) e =
    let parts = and_parts (is_code_or_prefix t) (list_all is_code_or_prefix (u ∷ ts)) e in
    list_all-append is_plain t (44 ∷ join_with_byte 44 (u ∷ ts)) ∙ (λ i. code_or_prefix_plain t parts.0 i && joined_plain (u ∷ ts) parts.1 i)

-- a list of product codes and company prefixes is a text of 1 to 59 plain characters
pub plain_codes : (t : List ℕ) → is_codes t ≡ true → (1 ≤ length t) × (length t ≤ longest_codes) × (list_all is_plain t ≡ true)
plain_codes [] e = absurd cc
plain_codes (b ∷ bs) e =
    let halves = and_parts (nat_le (length (b ∷ bs)) longest_codes) (list_all is_code_or_prefix (codes_in (b ∷ bs))) e in
    let short : length (b ∷ bs) ≤ longest_codes = at_most longest_codes (length (b ∷ bs)) halves.0 in (
      omega arith,
      short,
      ap (list_all is_plain) (sym (join_with_byte-slice_split 44 (b ∷ bs))) ∙ joined_plain (codes_in (b ∷ bs)) halves.1,
    )
