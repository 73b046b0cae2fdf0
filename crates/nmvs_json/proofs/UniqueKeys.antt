-- The test of a value's keys agrees with a strict read.
use Rattle.std.proofs.Common.{◌≡◌, ◌≢◌, ℕ, suc, Bool, true, false, not, List, [], ◌∷◌, Option, Some, None, cond, refl, ap, ◌∙◌, arith, bytes_eq}
use Rattle.std.specs.Prelude.{IsSomeAnd, option_and_then}
use Rattle.std.specs.Bool.{Decides}
use Rattle.std.specs.List.{list_all}
use Rattle.std.proofs.lemmas.Bool.Decides.{Decides-and, Decides-by_and, Decides-like, Decides-not}
use Rattle.std.proofs.lemmas.List.Kept.{AllPairs-cons}
use Rattle.std.proofs.lemmas.Slice.Eq.{bytes_eq-Decides}
use Rattle.json.specs.Json.{Json, null, boolean, number, string, array, object, Items, no_items, item, Members, no_members, member, document}
use Rattle.json.specs.Strict.{AreDistinct, HasUniqueKeys, ItemsHaveUniqueKeys, MembersHaveUniqueKeys, keys}
use Rattle.nmvs_json.specs.Questions.{are_distinct, has_unique_keys, items_have_unique_keys, members_have_unique_keys, value_in}

distinct : (ks : List (List ℕ)) → Decides (are_distinct ks) (AreDistinct ks)
distinct [] = (λ _. λ i j d below within. absurd (omega arith), λ _. refl)
distinct (k ∷ ks) =
    Decides-like _ (λ h. AllPairs-cons (λ (a b : List ℕ). a ≢ b) k ks h.0 h.1)
    (λ h. (λ j d within. h 0 (suc j) d (omega arith) (omega arith), λ i j d below within. h (suc i) (suc j) d (omega arith) (omega arith)))
    (Decides-and _ _
    (Decides-by_and (λ other. not (bytes_eq k other)) (λ other. k ≢ other) (list_all (λ other. not (bytes_eq k other))) (λ other. Decides-not _ (bytes_eq-Decides k other)) refl (λ _ _. refl) ks)
    (distinct ks))

mutual
  unique : (j : Json) → Decides (has_unique_keys j) (HasUniqueKeys j)
  unique null = (λ _. tt, λ _. refl)
  unique (boolean b) = (λ _. tt, λ _. refl)
  unique (number s) = (λ _. tt, λ _. refl)
  unique (string s) = (λ _. tt, λ _. refl)
  unique (array js) = items_unique js
  unique (object ms) = Decides-and _ _ (distinct (keys ms)) (members_unique ms)

  items_unique : (js : Items) → Decides (items_have_unique_keys js) (ItemsHaveUniqueKeys js)
  items_unique no_items = (λ _. tt, λ _. refl)
  items_unique (item j js) = Decides-and _ _ (unique j) (items_unique js)

  members_unique : (ms : Members) → Decides (members_have_unique_keys ms) (MembersHaveUniqueKeys ms)
  members_unique no_members = (λ _. tt, λ _. refl)
  members_unique (member k j ms) = Decides-and _ _ (unique j) (members_unique ms)

pub some_value : (text : List ℕ) (j : Json) → document text ≡ Some j → HasUniqueKeys j → value_in text ≡ Some j
some_value text j is once = ap (option_and_then _) is ∙ (λ i. cond ((unique j).1 once i) (Some j) None)

pub no_value : (text : List ℕ) → document text ≡ None → value_in text ≡ None
no_value text none = ap (option_and_then _) none

pub repeated : (text : List ℕ) → IsSomeAnd (document text) (λ j. HasUniqueKeys j → ⊥) → value_in text ≡ None
repeated text twice = by (document text) twice
  where
    refused : (j : Json) (b : Bool) → has_unique_keys j ≡ b → (HasUniqueKeys j → ⊥) → cond b (Some j) None ≡ None
    refused j true e twice = absurd (twice ((unique j).0 e))
    refused j false e twice = refl

    by : (o : Option Json) → IsSomeAnd o (λ j. HasUniqueKeys j → ⊥) → option_and_then (λ j. cond (has_unique_keys j) (Some j) None) o ≡ None
    by None twice = refl
    by (Some j) twice = refused j (has_unique_keys j) refl twice
