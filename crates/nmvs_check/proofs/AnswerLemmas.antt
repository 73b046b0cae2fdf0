-- The answers about an export, entry by entry.
use Rattle.std.proofs.Common.{◌≡◌, ℕ, suc, ◌+◌, ◌<◌, Bool, true, false, cond, arith, List, [], ◌∷◌, ◌++◌, take, length, get_or, fold, Option, None, Some, refl, sym, ap, subst, ◌∙◌, append_assoc, length-append, zero-add}
use Rattle.std.specs.List.{flat_map}
use Rattle.std.proofs.lemmas.List.{append-nil}
use Rattle.std.proofs.lemmas.List.Concat.{flat_map-append}
use Rattle.std.proofs.lemmas.List.Sums.{fold-append}
use lib.Seq.{take-suc}
use Rattle.nmvs_identifier.specs.ProductCode.{ProductCode}
use Rattle.nmvs_rules.specs.declared.entry.Entry.{Entry}
use Rattle.nmvs_rules.specs.Questions.{code_of}
use Rattle.nmvs_rules.specs.declared.repeat.Repeat.{Repeat}
use Rattle.nmvs_rules.specs.declared.repeat.Repeat.TheVariants as repeat
use Rattle.nmvs_rules.specs.Repeats.{repeat_of, AreNewAfter}
use Rattle.nmvs_shard.specs.Repeated.{FirstRepeated}
use Rattle.nmvs_check.specs.Answers.{with_code, codes_named, is_new, first_repeated_after}

pub codes_named-next : (t : List Entry) (i : ℕ) (d : Entry) → i < length t → codes_named (take (i + 1) t) ≡ with_code (codes_named (take i t)) (code_of (get_or t i d).put.question)
codes_named-next t i d l =
    let on : i + 1 ≡ suc i = omega arith in
    ap (λ (n : ℕ). codes_named (take n t)) on ∙ ap codes_named (take-suc t i d l) ∙ fold-append (λ seen e. with_code seen (code_of e.put.question)) [] (take i t) (get_or t i d ∷ [])

pub lines-next : (f : ProductCode → List ℕ) (cs : List ProductCode) (i : ℕ) (d : ProductCode) → i < length cs
    → flat_map f (take (i + 1) cs) ≡ flat_map f (take i cs) ++ f (get_or cs i d)
lines-next f cs i d l =
    let on : i + 1 ≡ suc i = omega arith in
    ap (λ (n : ℕ). flat_map f (take n cs)) on ∙ ap (flat_map f) (take-suc cs i d l)
    ∙ flat_map-append f (take i cs) (get_or cs i d ∷ []) ∙ ap (λ (x : List ℕ). flat_map f (take i cs) ++ x) (append-nil (f (get_or cs i d)))

not-new : (r : Repeat) → ¬ (r ≡ repeat.New) → is_new r ≡ false
not-new repeat.New h = absurd (h refl)
not-new (repeat.Same place reply) h = refl
not-new repeat.Other h = refl

first-none : (u t : List Entry) → AreNewAfter u t → first_repeated_after u t ≡ None
first-none u [] new = refl
first-none u (e ∷ t) new =
    ap (λ r. cond (is_new r) (first_repeated_after (u ++ e ∷ []) t) (Some (length u))) new.0 ∙ first-none (u ++ e ∷ []) t new.1

first-some : (u before : List Entry) (e : Entry) (after : List Entry) → AreNewAfter u before → ¬ (repeat_of (u ++ before) e.put ≡ repeat.New)
    → first_repeated_after u (before ++ e ∷ after) ≡ Some (length u + length before)
first-some u [] e after new h =
    let here : is_new (repeat_of u e.put) ≡ false = not-new (repeat_of u e.put) (subst (λ (x : List Entry). ¬ (repeat_of x e.put ≡ repeat.New)) (append-nil u) h) in
    let none : length u ≡ length u + 0 = omega arith in
    ap (λ b. cond b (first_repeated_after (u ++ e ∷ []) after) (Some (length u))) here ∙ ap Some none
first-some u (x ∷ before) e after new h =
    let more = first-some (u ++ x ∷ []) before e after new.1 (subst (λ (y : List Entry). ¬ (repeat_of y e.put ≡ repeat.New)) (sym (append_assoc u (x ∷ []) before)) h) in
    let long : length (u ++ x ∷ []) + length before ≡ length u + suc (length before) = omega (arith, length-append u (x ∷ [])) in
    ap (λ r. cond (is_new r) (first_repeated_after (u ++ x ∷ []) (before ++ e ∷ after)) (Some (length u))) new.0 ∙ more ∙ ap Some long

-- the first entry whose question was not new is the one that is computed
pub first_is : (t : List Entry) (o : Option ℕ) → FirstRepeated t o → o ≡ first_repeated_after [] t
first_is t None new = sym (first-none [] t new)
first_is t (Some n) first =
    let none : length first.before ≡ length {A = Entry} [] + length first.before = sym (zero-add (length first.before)) in
    ap Some (first.place ∙ none) ∙ sym (ap (first_repeated_after []) first.whole ∙ first-some [] first.before first.entry first.after first.new first.repeated)

-- and stands in the trail
pub first_within : (t : List Entry) (n : ℕ) → FirstRepeated t (Some n) → n < length t
first_within t n first = omega (arith, first.place, ap length first.whole, length-append first.before (first.entry ∷ first.after))
