-- The elements of a list after one place was written, one element was pushed, or the first was taken.
use Rattle.std.proofs.Common.{◌≡◌, ◌≢◌, ◌<◌, ◌⊎◌, inl, inr, ◌++◌, ◌∙◌, ℕ, suc, zero, List, [], ◌∷◌, refl, sym, ap, subst, arith, append_assoc, get_or, map, set, length}
use Rattle.std.proofs.lemmas.List.{map-append}
use Rattle.std.specs.List.{remove}
use Rattle.std.specs.Prelude.{Some, slice_get, All}

pub set_same : {X : Type 0} (xs : List X) (j : ℕ) (x : X) → j < length xs → slice_get (set xs j x) j ≡ Some x
set_same [] j x within = absurd (omega arith)
set_same (a ∷ xs) zero x within = refl
set_same (a ∷ xs) (suc j) x within = set_same xs j x (omega arith)

pub set_other : {X : Type 0} (xs : List X) (j p : ℕ) (x : X) → p ≢ j → slice_get (set xs j x) p ≡ slice_get xs p
set_other [] j p x apart = refl
set_other (a ∷ xs) zero zero x apart = absurd (apart refl)
set_other (a ∷ xs) zero (suc p) x apart = refl
set_other (a ∷ xs) (suc j) zero x apart = refl
set_other (a ∷ xs) (suc j) (suc p) x apart = set_other xs j p x (λ e. apart (ap suc e))

pub set_cases : {X : Type 0} (xs : List X) (j p : ℕ) (x y : X) → slice_get (set xs j x) p ≡ Some y → ((p ≡ j) × (y ≡ x)) ⊎ ((p ≢ j) × (slice_get xs p ≡ Some y))
set_cases [] j p x y h = absurd cc
set_cases (a ∷ xs) zero zero x y h = inl (refl, cc)
set_cases (a ∷ xs) zero (suc p) x y h = inr ((λ e. omega arith), h)
set_cases (a ∷ xs) (suc j) zero x y h = inr ((λ e. omega arith), h)
set_cases (a ∷ xs) (suc j) (suc p) x y h =
    elim (set_cases xs j p x y h) [ inl e ↦ inl (ap suc e.0, e.1) | inr e ↦ (let n = e.0 in inr ((λ q. n (omega arith)), e.1)) ]

pub push_cases : {X : Type 0} (xs : List X) (p : ℕ) (x y : X) → slice_get (xs ++ x ∷ []) p ≡ Some y → ((p ≡ length xs) × (y ≡ x)) ⊎ (slice_get xs p ≡ Some y)
push_cases [] zero x y h = inl (refl, cc)
push_cases [] (suc p) x y h = absurd (cc)
push_cases (a ∷ xs) zero x y h = inr h
push_cases (a ∷ xs) (suc p) x y h =
    elim (push_cases xs p x y h) [ inl e ↦ inl (ap suc e.0, e.1) | inr e ↦ inr e ]

-- lists with the same elements are one
pub same_list : {X : Type 0} (xs ys : List X) → length xs ≡ length ys → ((i : ℕ) → i < length ys → slice_get xs i ≡ slice_get ys i) → xs ≡ ys
same_list [] [] many same = refl
same_list [] (y ∷ ys) many same = absurd (omega (arith, many))
same_list (x ∷ xs) [] many same = absurd (omega (arith, many))
same_list (x ∷ xs) (y ∷ ys) many same =
    let first : Some x ≡ Some y = same 0 (omega arith) in
    let head : x ≡ y = cc in
    let tail : xs ≡ ys = same_list xs ys (omega (arith, many)) (λ i within. same (suc i) (omega (arith, within))) in
    λ i. head i ∷ tail i

-- the first element of a list moves to the end of another, where `f` is applied to it
pub first_moved : {X Y : Type 0} (f : X → Y) (xs rest : List X) (x : X) (done all : List Y) (y : Y) → 0 < length xs → x ≡ get_or xs 0 x → rest ≡ remove xs 0 → y ≡ f x → done ++ map f xs ≡ all → (done ++ y ∷ []) ++ map f rest ≡ all
first_moved f [] rest x done all y some is left from whole = absurd (omega arith)
first_moved f (z ∷ xs) rest x done all y some is left from whole =
    append_assoc done (y ∷ []) (map f rest) ∙ ap (λ t. done ++ t) (λ i. (from ∙ ap f is) i ∷ map f (left i)) ∙ whole

pub rest_all : {X : Type 0} (P : X → Type 0) (xs rest : List X) → rest ≡ remove xs 0 → All P xs → All P rest
rest_all {X} P [] rest left holds = λ k d within. absurd (omega (arith, ap length left))
rest_all {X} P (z ∷ xs) rest left holds = λ k d within.
    let Q : List X → Type 0 = λ t. k < length t → P (get_or t k d) in
    subst Q (sym left) (λ w. holds (suc k) d (omega arith)) within

pub first_holds : {X : Type 0} (P : X → Type 0) (xs : List X) (x : X) → 0 < length xs → x ≡ get_or xs 0 x → All P xs → P x
first_holds P xs x some is holds = subst P (sym is) (holds 0 x some)

pub first_and_rest : {X : Type 0} (xs rest : List X) (x : X) → 0 < length xs → x ≡ get_or xs 0 x → rest ≡ remove xs 0 → xs ≡ x ∷ rest
first_and_rest [] rest x some is left = absurd (omega arith)
first_and_rest (z ∷ xs) rest x some is left = λ i. (sym is) i ∷ (sym left) i

-- the first element of a list, `f` of an element, moves as that element to the end of another list
pub back_moved : {X Y : Type 0} (f : X → Y) (done : List X) (y : X) (xs rest : List Y) (x : Y) (all : List Y) → 0 < length xs → x ≡ get_or xs 0 x → rest ≡ remove xs 0 → f y ≡ x → map f done ++ xs ≡ all → map f (done ++ y ∷ []) ++ rest ≡ all
back_moved f done y xs rest x all some is left from whole =
    ap (λ z. z ++ rest) (map-append f done (y ∷ [])) ∙ append_assoc (map f done) (f y ∷ []) rest
    ∙ ap (λ z. map f done ++ z) ((λ i. from i ∷ rest) ∙ sym (first_and_rest xs rest x some is left)) ∙ whole
