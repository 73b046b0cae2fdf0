-- The bytes of values are text.
use Rattle.std.proofs.Common.{◌≡◌, ◌<◌, ◌||◌, ◌&&◌, ℕ, Bool, true, false, eqb, ltb, nat_le, List, [], ◌∷◌, length, refl, sym, ap, ◌∙◌, arith, eqb-true, ltb-true, Option, Some, None, Result, is_some, is_ok, IsOk, IfNone, ◌↔◌}
use Rattle.std.specs.Char.{is_ascii_digit}
use Rattle.std.specs.List.{list_all, list_any, AllByRecursion}
use Rattle.std.specs.Str.{IsUtf8}
use Rattle.std.proofs.lemmas.Bool.{false≢true, and_parts}
use Rattle.std.proofs.lemmas.Bool.Decides.{nat_tests}
use Rattle.std.proofs.lemmas.List.Elements.{All-from_recursion}
use Rattle.std.proofs.lemmas.Str.{IsUtf8-from_ascii}
use Rattle.std.proofs.lemmas.Str.Ascii.{IsAscii-from_all}
use Rattle.nmvs_identifier.specs.Characters.{is_in_set_82, is_set_82_text, character_set_82}
use Rattle.nmvs_identifier.specs.Expiry.{is_expiry, has_month, has_day}
use Rattle.nmvs_identifier.specs.ProductCode.{is_product_code, is_checked}

-- a number that is one of small numbers is small
small_of : (b : ℕ) (xs : List ℕ) → list_all (λ x. ltb x 128) xs ≡ true → list_any (eqb b) xs ≡ true → b < 128
small_of b [] small found = absurd cc
small_of b (x ∷ xs) small found = here (eqb b x) refl found (λ (later : list_any (eqb b) xs ≡ true). small_of b xs parts.1 later)
  where
    parts : (ltb x 128 ≡ true) × (list_all (λ x. ltb x 128) xs ≡ true)
    parts = and_parts (ltb x 128) (list_all (λ x. ltb x 128) xs) small

    here : (t : Bool) → eqb b x ≡ t → (t || list_any (eqb b) xs) ≡ true → (list_any (eqb b) xs ≡ true → b < 128) → b < 128
    here true same found later = omega (arith, eqb-true b x same, ltb-true x 128 parts.0)
    here false same found later = later found

set_82_small : (b : ℕ) → is_in_set_82 b ≡ true → b < 128
set_82_small b e = small_of b character_set_82 refl e

digit_small : (b : ℕ) → is_ascii_digit b ≡ true → b < 128
digit_small b e = grind (arith, nat_tests)

all_small : (test : ℕ → Bool) (v : List ℕ) → ((b : ℕ) → test b ≡ true → b < 128) → list_all test v ≡ true → AllByRecursion (λ b. b < 128) v
all_small test [] small e = tt
all_small test (b ∷ bs) small e =
    let parts = and_parts (test b) (list_all test bs) e in
    (small b parts.0, all_small test bs small parts.1)

utf8 : (test : ℕ → Bool) (v : List ℕ) → ((b : ℕ) → test b ≡ true → b < 128) → list_all test v ≡ true → IsUtf8 v
utf8 test v small e = IsUtf8-from_ascii v (IsAscii-from_all v (All-from_recursion _ v (all_small test v small e)))

not_true : (b : Bool) → (b ≡ true → ⊥) → b ≡ false
not_true true h = absurd (h refl)
not_true false h = refl

-- bytes that are not UTF-8 are no value
pub no_text : (v : List ℕ) → (IsUtf8 v → ⊥) → is_set_82_text v ≡ false
no_text v none =
    not_true (is_set_82_text v)
    (λ e. none (utf8 is_in_set_82 v set_82_small ((and_parts (nat_le 1 (length v) && nat_le (length v) 20) (list_all is_in_set_82 v) e).1)))

pub no_code : (v : List ℕ) → (IsUtf8 v → ⊥) → is_product_code v ≡ false
no_code v none =
    not_true (is_product_code v) (λ e.
    none (utf8 is_ascii_digit v digit_small ((and_parts (eqb (length v) 14) (list_all is_ascii_digit v)
    ((and_parts (eqb (length v) 14 && list_all is_ascii_digit v) (is_checked v) e).0)).1)))

pub no_expiry : (v : List ℕ) → (IsUtf8 v → ⊥) → is_expiry v ≡ false
no_expiry v none =
    not_true (is_expiry v) (λ e.
    let day = and_parts (eqb (length v) 6 && list_all is_ascii_digit v && has_month v) (has_day v) e in
    let month = and_parts (eqb (length v) 6 && list_all is_ascii_digit v) (has_month v) day.0 in
    none (utf8 is_ascii_digit v digit_small ((and_parts (eqb (length v) 6) (list_all is_ascii_digit v) month.0).1)))

-- nor is a text that its reader refuses
pub refused : {A E : Type 0} → (test : List ℕ → Bool) (r : Result A E) (o : Option A) (value : Option (List ℕ)) (text : List ℕ) → is_some o ≡ is_ok r → IsOk r ↔ (test text ≡ true) → value ≡ Some text
    → IfNone o ((v : List ℕ) → value ≡ Some v → test v ≡ false)
refused test r (Some x) value text same accepts there = tt
refused test r None value text same accepts there = λ v is.
    let both : Some text ≡ Some v = sym there ∙ is in
    let equal : text ≡ v = cc in
    not_true (test v) (λ e. false≢true (same ∙ accepts.1 (ap test equal ∙ e)))
