-- A name is one entry's, and its text is cut at the hyphen.
use Rattle.std.proofs.Common.{◌≡◌, ◌≤◌, ◌<◌, ◌^◌, ◌+◌, ◌==◌, ◌&&◌, ℕ, zero, suc, Bool, true, false, cond, List, [], ◌∷◌, ◌++◌, length, get_or, decimal, Option, Some, None, Bor, codes, filter_map, refl, sym, subst, ap, ◌∙◌, arith}
use Rattle.std.specs.Prelude.{IfNone, MatchOption, count_by, filter, find}
use Rattle.std.specs.Char.{is_ascii_digit}
use Rattle.std.specs.List.{cons_option, list_all, range_with_len}
use Rattle.std.proofs.lemmas.Bool.{and_parts}
use Rattle.std.proofs.lemmas.Bool.Decides.{nat_tests}
use Rattle.std.proofs.lemmas.List.Recursion.{is_count_by}
use Rattle.std.proofs.lemmas.Str.Pattern.{IsSplitOnceResult, split_after}
use Rattle.nmvs_identifier.specs.ProductCode.{is_checked, is_product_code}
use Rattle.nmvs_rules.specs.declared.entry.Entry.{Entry}
use Rattle.nmvs_rules.specs.declared.reply.Reply.{Reply}
use Rattle.nmvs_rules.specs.declared.reply.Reply.TheVariants as reply
use Rattle.nmvs_rules.specs.Laws.{alert_numbers}
use Rattle.nmvs_rules.specs.Operations.{alert_number}
use Rattle.nmvs_rules.specs.Rules.{IsLawful}
use Rattle.nmvs_rules.specs.Trail.{alerts_of, has_code}
use Rattle.nmvs_rules.proofs.AlertLemmas.{alerts-numbered}
use Rattle.nmvs_reports.specs.declared.alert_name.AlertName.{AlertName}
use Rattle.nmvs_reports.specs.Alerts.{NamesOnce, alert_text, is_named, is_numbered}

-- how many elements pass a test
abbrev tally : {X : Type 0} → (X → Bool) → List X → ℕ
tally p [] = 0
tally p (x ∷ xs) = cond (p x) (1 + tally p xs) (tally p xs)

counted : {X : Type 0} (p : X → Bool) (xs : List X) → tally p xs ≡ count_by p xs
counted p xs = is_count_by (tally p) p refl (λ x xs. refl) xs

-- a range has each number once at most, and none below its first
none_below : (n a k : ℕ) → n < a → tally (λ m. m == n) (range_with_len a k) ≡ 0
none_below n a zero low = refl
none_below n a (suc k) low = let rest = none_below n (a + 1) k (omega (arith, low)) in grind (arith, nat_tests)

one-more : (n a rest : ℕ) → (n < a + 1 → rest ≡ 0) → rest ≤ 1 → cond (a == n) (1 + rest) rest ≤ 1
one-more n a rest none few =
    elim (a == n) as (λ b. (a == n) ≡ b → cond b (1 + rest) rest ≤ 1) [
      | true ↦ λ same. let nothing = none (grind (arith, nat_tests)) in omega (arith, nothing)
      | false ↦ λ other. few
    ] refl

once : (n a k : ℕ) → tally (λ m. m == n) (range_with_len a k) ≤ 1
once n a zero = omega arith
once n a (suc k) = one-more n a (tally (λ m. m == n) (range_with_len (a + 1) k)) (none_below n (a + 1) k) (once n (a + 1) k)

-- the entries of a name are as many as its number stands among those of its product code
one-alert : (n : ℕ) (r : Reply) (rest : List ℕ) → cond (is_numbered n r) (1 + tally (λ m. m == n) rest) (tally (λ m. m == n) rest) ≡ tally (λ m. m == n) (cons_option (alert_number r) rest)
one-alert n (reply.Alert c f m) rest = refl
one-alert n r rest = refl

one-entry : (n : ℕ) (b : Bool) (r : Reply) (rest : List ℕ) → cond (b && is_numbered n r) (1 + tally (λ m. m == n) rest) (tally (λ m. m == n) rest) ≡ tally (λ m. m == n) (cond b (cons_option (alert_number r) rest) rest)
one-entry n false r rest = refl
one-entry n true r rest = one-alert n r rest

numbered : (name : AlertName) (t : List Entry) → tally (is_named name) t ≡ tally (λ m. m == name.number) (alert_numbers t name.code)
numbered name [] = refl
numbered name (e ∷ t) =
    ap (λ k. cond (is_named name e) (1 + k) k) (numbered name t) ∙ one-entry name.number (has_code name.code e) e.reply (alert_numbers t name.code) ∙ ap (tally (λ m. m == name.number)) (one (has_code name.code e))
  where
    one : (b : Bool) → cond b (cons_option (alert_number e.reply) (alert_numbers t name.code)) (alert_numbers t name.code) ≡ filter_map (λ x. alert_number x.reply) (cond b (e ∷ filter (has_code name.code) t) (filter (has_code name.code) t))
    one true = refl
    one false = refl

-- what is found in a list is found first in a longer one
found-first : (test : Entry → Bool) (t later : List Entry) (e : Entry) → find test t ≡ Some e → find test (t ++ later) ≡ Some e
found-first test [] later e is = absurd cc
found-first test (x ∷ t) later e is =
    elim (test x) as (λ b. cond b (Some x) (find test t) ≡ Some e → cond b (Some x) (find test (t ++ later)) ≡ Some e) [
      | true ↦ λ here. here
      | false ↦ λ there. found-first test t later e there
    ] is

pub names-once : NamesOnce
names-once t later name e lawful is =
    let numbers = sym (counted (is_named name) (t ++ later)) ∙ numbered name (t ++ later) ∙ ap (tally (λ m. m == name.number)) (alerts-numbered (t ++ later) name.code lawful) in
    (subst (λ (k : ℕ). k ≤ 1) (sym numbers) (once name.number 1 (alerts_of (t ++ later) name.code)), found-first (is_named name) t later e is)

-- no digit is a hyphen
no-hyphen : (bs : List ℕ) → list_all is_ascii_digit bs ≡ true → (i : ℕ) → i < length bs → get_or bs i 0 ≡ 45 → ⊥
no-hyphen [] each i within is = absurd (omega (arith, within))
no-hyphen (b ∷ bs) each zero within is = let parts = and_parts (is_ascii_digit b) (list_all is_ascii_digit bs) each in not-hyphen b parts.0 is
  where
    not-hyphen : (c : ℕ) → is_ascii_digit c ≡ true → c ≡ 45 → ⊥
    not-hyphen c digit is = let digits = digit in grind (arith, nat_tests)
no-hyphen (b ∷ bs) each (suc i) within is = let parts = and_parts (is_ascii_digit b) (list_all is_ascii_digit bs) each in no-hyphen bs parts.1 i (omega (arith, within)) is

code-digits : (bs : List ℕ) → is_product_code bs ≡ true → list_all is_ascii_digit bs ≡ true
code-digits bs is =
    let outer = and_parts ((length bs == 14) && list_all is_ascii_digit bs) (is_checked bs) is in (and_parts (length bs == 14) (list_all is_ascii_digit bs) outer.0).1

-- the text of a name is cut into its product code and its number
pub cut : (text : List ℕ) (name : AlertName) (r : Option (Bor (List ℕ) × Bor (List ℕ))) → IsSplitOnceResult 45 text r → is_product_code name.code.bytes ≡ true → alert_text name ≡ text
    → MatchOption r ⊥ (λ x. (x.0.now ≡ name.code.bytes) × (x.1.now ≡ decimal name.number))
cut text name r split code is = split_after 45 text name.code.bytes (decimal name.number) r split (omega arith) (sym is) (no-hyphen name.code.bytes (code-digits name.code.bytes code))

-- what holds anyway holds where there is none
pub none-here : {T : Type 0} (o : Option T) (P : Type 0) → P → IfNone o P
none-here None P h = h
none-here (Some x) P h = tt
