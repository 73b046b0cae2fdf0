-- Texts that are put at the end of a block, one after another.
use Rattle.std.proofs.Common.{◌≡◌, ◌≤◌, ◌<◌, ◌+◌, ◌∙◌, ◌++◌, ◌∷◌, ◌-◌, [], ℕ, List, ap, append_assoc, arith, drop, get_or, length, map, min, refl, sym, take, Bor}
use Rattle.std.specs.Prelude.{OnOk, Result, Ok, Err, is_ok, if◌then◌else◌}
use Rattle.std.specs.List.{flat_map}
use Rattle.std.proofs.Math.Seq.{take-length}
use Rattle.std.proofs.lemmas.List.{drop_min, flat_map_more, length-drop, take_all, take_min, take_more}
use Rattle.nmvs_alerts.specs.Json.{joined, led}

pub onward : (b s : List ℕ) {c : List ℕ} → c ≡ b ++ s → (r : List ℕ) → c ++ r ≡ b ++ (s ++ r)
onward b s is r = ap (λ (x : List ℕ). x ++ r) is ∙ append_assoc b s r

-- what was put there if there was memory
pub on-ok : {A E : Type 0} (r : Result A E) (new a b x : List ℕ) → new ≡ (if is_ok r then a else b) → a ≡ x → OnOk r (new ≡ x)
on-ok (Ok v) new a b x is same = is ∙ same
on-ok (Err e) new a b x is same = tt

-- what is left of bytes behind so many of them
pub left : (n : ℕ) (xs : List ℕ) → take (length xs - min n (length xs)) (drop (min n (length xs)) xs) ≡ drop n xs
left n xs = take_all (length xs - min n (length xs)) (drop (min n (length xs)) xs) (omega (arith, length-drop (min n (length xs)) xs)) ∙ drop_min n xs

-- what stands behind the first
behind : {X : Type 0} (x : X) (xs : List X) → take (length (x ∷ xs) - 1) xs ≡ xs
behind {X = X} x xs = ap (λ (n : ℕ). take n xs) (omega arith) ∙ take-length xs

-- the first of these and the ninety-nine behind it are the first hundred
pub hundred : {X : Type 0} (xs : List X) (x : X) (n : ℕ) → 1 ≤ length xs → x ≡ get_or xs 0 x → n ≡ min 99 (length (take (length xs - 1) (drop 1 xs)))
    → x ∷ take n (take (length xs - 1) (drop 1 xs)) ≡ take 100 xs
hundred {X = X} [] x n some is many = absurd (omega (arith, some))
hundred {X = X} (y ∷ ys) x n some is many =
    (λ i. is i ∷ take ((many ∙ ap (λ (zs : List X). min 99 (length zs)) (behind y ys)) i) (behind y ys i)) ∙ ap (λ (zs : List X). y ∷ zs) (take_min 99 ys)

-- the same of all
each : {Y : Type 0} (f : Y → List ℕ) (ys : List (Bor Y)) → flat_map (λ e. led f e.now) ys ≡ flat_map (led f) (map (λ e. e.now) ys)
each f [] = refl
each f (y ∷ ys) = ap (λ (text : List ℕ). led f y.now ++ text) (each f ys)

pub all-led : {Y : Type 0} (f : Y → List ℕ) (xs : List (Bor Y)) (x : Bor Y) → 1 ≤ length xs → x ≡ get_or xs 0 x
    → f x.now ++ flat_map (λ e. led f e.now) (take (length xs - 1) (drop 1 xs)) ≡ joined f (map (λ e. e.now) xs)
all-led f [] x some is = absurd (omega (arith, some))
all-led f (y ∷ ys) x some is = (λ i. f (is i).now ++ flat_map (λ e. led f e.now) (behind y ys i)) ∙ ap (λ (text : List ℕ). f y.now ++ text) (each f ys)

pub all-joined : {X : Type 0} (f : X → List ℕ) (xs : List X) (x : X) → 1 ≤ length xs → x ≡ get_or xs 0 x
    → f x ++ flat_map (led f) (take (length xs - 1) (drop 1 xs)) ≡ joined f xs
all-joined f [] x some is = absurd (omega (arith, some))
all-joined f (y ∷ ys) x some is = λ i. f (is i) ++ flat_map (led f) (behind y ys i)

-- one more piece of a walk
pub piece-more : {X A : Type 0} (f : X → List A) (xs : List X) (i : ℕ) (x : X) → i < length xs → x ≡ get_or xs i x
    → flat_map f (take i xs) ++ f x ≡ flat_map f (take (i + 1) xs)
piece-more {X} f xs i x within is =
    flat_map_more f [] (take i xs) x ∙ ap (λ (y : X). flat_map f (take i xs ++ y ∷ [])) is ∙ ap (flat_map f) (sym (take_more xs i x within))
