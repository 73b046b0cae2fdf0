-- The lines of users, and their number, one by one.
use Rattle.std.proofs.Common.{◌≡◌, ℕ, suc, ◌+◌, ◌<◌, arith, List, [], ◌∷◌, ◌++◌, take, drop, map, length, Bool, cond, Some, None, inl, inr, ap, ◌∙◌}
use Rattle.std.specs.List.{filter, flat_map, slice_get}
use Rattle.std.proofs.lemmas.List.{append-nil, map-append, drop_more}
use Rattle.std.proofs.lemmas.List.Concat.{flat_map-append}
use Rattle.std.proofs.lemmas.List.Filters.{length-filter_more}
use Rattle.std.proofs.lemmas.Option.{slice_get_within, get_or_from_slice_get, slice_get_cases}
use lib.Seq.{take-suc}

-- the lines of one item more
pub lines_more : {X : Type 0} (f : X → List ℕ) (xs : List X) (i : ℕ) (x : X) → Some x ≡ slice_get xs i → flat_map f (take (i + 1) xs) ≡ flat_map f (take i xs) ++ f x
lines_more f xs i x is =
    let e : slice_get xs i ≡ Some x = cc in
    let on : i + 1 ≡ suc i = omega arith in
    ap (λ n. flat_map f (take n xs)) on ∙ ap (flat_map f) (take-suc xs i x (slice_get_within xs i x e) ∙ ap (λ y. take i xs ++ y ∷ []) (get_or_from_slice_get xs i x x e))
    ∙ flat_map-append f (take i xs) (x ∷ []) ∙ ap (λ (y : List ℕ). flat_map f (take i xs) ++ y) (append-nil (f x))

-- the number of items that pass a test, with one item more
pub passing_more : {X : Type 0} (p : X → Bool) (xs : List X) (i : ℕ) (x : X) → Some x ≡ slice_get xs i → length (filter p (take (i + 1) xs)) ≡ length (filter p (take i xs)) + cond (p x) 1 0
passing_more p xs i x is =
    let e : slice_get xs i ≡ Some x = cc in
    length-filter_more p xs i x (slice_get_within xs i x e)
    ∙ ap (λ y. length (filter p (take i xs)) + cond (p y) 1 0) (get_or_from_slice_get xs i x x e)

-- each place of a list has an item
pub none_behind : {X : Type 0} (xs : List X) (i : ℕ) → None ≡ slice_get xs i → i < length xs → ⊥
none_behind xs i none within = elim (slice_get_cases xs i).1 [
  | inl there ↦ let e = there.2 in absurd (cc (e, none))
  | inr past ↦ absurd (omega (arith, past.0, within))
]

-- the states of one user more
pub states_more : {X Y : Type 0} (f : X → Y) (xs : List X) (i : ℕ) (x : X) → Some x ≡ slice_get xs i → map f (take (i + 1) xs) ≡ map f (take i xs) ++ f x ∷ []
states_more f xs i x is =
    let e : slice_get xs i ≡ Some x = cc in
    let on : i + 1 ≡ suc i = omega arith in
    ap (λ n. map f (take n xs)) on ∙ ap (map f) (take-suc xs i x (slice_get_within xs i x e) ∙ ap (λ y. take i xs ++ y ∷ []) (get_or_from_slice_get xs i x x e))
    ∙ map-append f (take i xs) (x ∷ [])

-- the items from a place on are the one there, and those behind it
pub rest_more : {X : Type 0} (xs : List X) (i : ℕ) (x : X) → Some x ≡ slice_get xs i → drop i xs ≡ x ∷ drop (i + 1) xs
rest_more xs i x is =
    let e : slice_get xs i ≡ Some x = cc in
    drop_more xs i x (slice_get_within xs i x e) ∙ ap (λ y. y ∷ drop (i + 1) xs) (get_or_from_slice_get xs i x x e)
