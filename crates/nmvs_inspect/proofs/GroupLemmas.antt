-- Entries in groups, entry by entry.
use Rattle.std.proofs.Common.{◌≡◌, ◌∙◌, ap, sym, refl, arith, ℕ, zero, suc, ◌+◌, ◌<◌, Bool, true, false, not, ◌||◌, cond, List, [], ◌∷◌, ◌++◌, map, length, get_or, set}
use Rattle.std.specs.List.{list_any, position_or_len}
use Rattle.std.specs.Str.{bytes_eq}
use Rattle.std.specs.Global.{Vec}
use Rattle.nmvs_inspect.specs.declared.by.By.{By}
use Rattle.nmvs_inspect.specs.Groups.{Group, HasPartsOf, is_in, parts, with_entry}

list_any-map : {X Y : Type 0} (p : Y → Bool) (f : X → Y) (xs : List X) → list_any p (map f xs) ≡ list_any (λ x. p (f x)) xs
list_any-map p f [] = refl
list_any-map p f (x ∷ xs) = ap (λ (b : Bool). p (f x) || b) (list_any-map p f xs)

position-map : {X Y : Type 0} (p : Y → Bool) (f : X → Y) (xs : List X) → position_or_len p (map f xs) ≡ position_or_len (λ x. p (f x)) xs
position-map p f [] = refl
position-map p f (x ∷ xs) = ap (λ (n : ℕ). cond (not (p (f x))) (1 + n) 0) (position-map p f xs)

-- a key finds the groups that have the parts
pub any-keys : (bs : List By) (d : Group) (keys : List (Vec ℕ)) (gs : List Group) (key : Vec ℕ) → key.items ≡ parts bs d → HasPartsOf bs keys gs
    → list_any (λ k. bytes_eq key.items k.items) keys ≡ list_any (is_in bs d) gs
any-keys bs d keys gs key e has =
    sym (list_any-map (bytes_eq key.items) (λ (k : Vec ℕ). k.items) keys) ∙ ap (list_any (bytes_eq key.items)) has
    ∙ ap (λ (w : List ℕ). list_any (bytes_eq w) (map (parts bs) gs)) e ∙ list_any-map (bytes_eq (parts bs d)) (parts bs) gs

pub place-keys : (bs : List By) (d : Group) (keys : List (Vec ℕ)) (gs : List Group) (key : Vec ℕ) → key.items ≡ parts bs d → HasPartsOf bs keys gs
    → position_or_len (λ k. bytes_eq key.items k.items) keys ≡ position_or_len (is_in bs d) gs
place-keys bs d keys gs key e has =
    sym (position-map (bytes_eq key.items) (λ (k : Vec ℕ). k.items) keys) ∙ ap (position_or_len (bytes_eq key.items)) has
    ∙ ap (λ (w : List ℕ). position_or_len (bytes_eq w) (map (parts bs) gs)) e ∙ position-map (bytes_eq (parts bs d)) (parts bs) gs

-- an element that passes has a place
within-step : (b : Bool) (n m : ℕ) (r : Bool) → (r ≡ true → n < m) → (b || r) ≡ true → cond (not b) (1 + n) 0 < suc m
within-step true n m r later h = omega arith
within-step false n m r later h = let l = later h in omega arith

pub position-within : {X : Type 0} (p : X → Bool) (xs : List X) → list_any p xs ≡ true → position_or_len p xs < length xs
position-within p [] h = absurd (let e : false ≡ true = h in cc)
position-within p (x ∷ xs) h = within-step (p x) (position_or_len p xs) (length xs) (list_any p xs) (position-within p xs) h

-- one more entry in a group
abbrev pub more : Group → Group
more g = record g { number = g.number + 1 }

-- an entry of no group starts one at the end
new-step : (b : Bool) (g first : Group) (gs rest : List Group) (r : Bool) → (r ≡ false → rest ≡ gs ++ first ∷ []) → (b || r) ≡ false
    → cond b (more g ∷ gs) (g ∷ rest) ≡ g ∷ gs ++ first ∷ []
new-step true g first gs rest r later h = absurd (let e : true ≡ false = h in cc)
new-step false g first gs rest r later h = ap (λ (x : List Group). g ∷ x) (later h)

pub with_entry-new : (bs : List By) (gs : List Group) (d : Group) → list_any (is_in bs d) gs ≡ false → with_entry bs gs d ≡ gs ++ d ∷ []
with_entry-new bs [] d h = refl
with_entry-new bs (g ∷ gs) d h = new-step (is_in bs d g) g d gs (with_entry bs gs d) (list_any (is_in bs d) gs) (with_entry-new bs gs d) h

-- and one of a group counts in the first that has its parts
more-step : (b : Bool) (g x : Group) (gs rest : List Group) (n : ℕ) (r : Bool) → (r ≡ true → rest ≡ set gs n (more (get_or gs n x))) → (b || r) ≡ true
    → cond b (more g ∷ gs) (g ∷ rest) ≡ set (g ∷ gs) (cond (not b) (1 + n) 0) (more (get_or (g ∷ gs) (cond (not b) (1 + n) 0) x))
more-step true g x gs rest n r later h = refl
more-step false g x gs rest n r later h =
    let on : suc n ≡ 1 + n = omega arith in
    ap (λ (y : List Group). g ∷ y) (later h) ∙ ap (λ (m : ℕ). set (g ∷ gs) m (more (get_or (g ∷ gs) m x))) on

pub with_entry-more : (bs : List By) (gs : List Group) (d : Group) (x : Group) → list_any (is_in bs d) gs ≡ true
    → with_entry bs gs d ≡ set gs (position_or_len (is_in bs d) gs) (more (get_or gs (position_or_len (is_in bs d) gs) x))
with_entry-more bs [] d x h = absurd (let e : false ≡ true = h in cc)
with_entry-more bs (g ∷ gs) d x h = more-step (is_in bs d g) g x gs (with_entry bs gs d) (position_or_len (is_in bs d) gs) (list_any (is_in bs d) gs) (with_entry-more bs gs d x) h

-- and its parts stay
pub parts-kept : (bs : List By) (gs : List Group) (i : ℕ) (x : Group) → map (parts bs) (set gs i (more (get_or gs i x))) ≡ map (parts bs) gs
parts-kept bs [] i x = refl
parts-kept bs (g ∷ gs) zero x = refl
parts-kept bs (g ∷ gs) (suc n) x = ap (λ (ks : List (List ℕ)). parts bs g ∷ ks) (parts-kept bs gs n x)
