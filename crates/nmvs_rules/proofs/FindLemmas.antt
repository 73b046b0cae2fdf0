-- The first entry that passes a test.
use Rattle.std.proofs.Common.{◌≡◌, Bool, true, false, ◌||◌, cond, List, [], ◌∷◌, Option, Some, None, IsSomeAnd, refl, subst, arith}
use Rattle.std.specs.List.{find, list_any}
use Rattle.std.specs.Option.{is_some, option_map_or}

-- an element that `find` gives passes
pub find-passes : {X : Type 0} (p : X → Bool) → (xs : List X) (x : X) → find p xs ≡ Some x → p x ≡ true
find-passes p [] x found = cc
find-passes p (y ∷ ys) x found =
    elim (p y) as (λ b. p y ≡ b → cond b (Some y) (find p ys) ≡ Some x → p x ≡ true) [
      | true ↦ λ here is. let same : y ≡ x = cc in subst (λ z. p z ≡ true) same here
      | false ↦ λ here is. find-passes p ys x is
    ] refl found

-- if `find` gives an element that passes another test, some element passes it
pub find-any : {X : Type 0} (p q : X → Bool) → (xs : List X) (x : X) → find p xs ≡ Some x → q x ≡ true → list_any q xs ≡ true
find-any p q [] x e h = cc
find-any p q (y ∷ ys) x e h =
    elim (p y) as (λ b. cond b (Some y) (find p ys) ≡ Some x → list_any q (y ∷ ys) ≡ true) [
      | true ↦ λ is. let same : y ≡ x = cc in rw (same, h) refl
      | false ↦ λ is. grind (arith, find-any p q ys x is h)
    ] e

-- `find` gives an element exactly if some element passes
pub is_some-find : {X : Type 0} (p : X → Bool) (xs : List X) → is_some (find p xs) ≡ list_any p xs
is_some-find p [] = refl
is_some-find {X} p (x ∷ xs) = by (p x) (is_some-find {X = X} p xs)
  where
    by : (b : Bool) → is_some (find p xs) ≡ list_any p xs → is_some (cond b (Some x) (find p xs)) ≡ (b || list_any p xs)
    by true h = refl
    by false h = h

-- an option that is not some is none
pub is-none : {X : Type 0} (o : Option X) → is_some o ≡ false → o ≡ None
is-none None h = refl
is-none (Some x) h = cc

-- a property of an option's value, as a pair with that value
pub from-some : {X : Type 0} (o : Option X) (P : X → Type 0) → IsSomeAnd o P → (x : X) × (o ≡ Some x) × P x
from-some None P h = absurd h
from-some (Some x) P h = (x, refl, h)

-- an option whose value passes, as that value
pub from-passing : {X : Type 0} (p : X → Bool) (o : Option X) → option_map_or p o false ≡ true → (x : X) × (o ≡ Some x) × (p x ≡ true)
from-passing p None h = cc
from-passing p (Some x) h = (x, refl, h)
