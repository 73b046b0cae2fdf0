use Rattle.std.proofs.Common.{◌≡◌, ℕ, zero, suc, List, [], ◌∷◌, length, take, drop, arith, ap, subst, nat_eq, refl}
use Rattle.std.specs.Prelude.{◌&&◌, true}
use Rattle.std.specs.Cmp.Lexicographic.{pointwise, nat_list_eq_equiv}

-- cells that agree after two texts are the same if the texts are
pub same-before : (n : ℕ) (xs ys : List ℕ) → length xs ≡ length ys → drop n xs ≡ drop n ys →
    pointwise nat_eq xs ys ≡ pointwise nat_eq (take n xs) (take n ys)
same-before zero xs ys long behind = subst (λ zs. pointwise nat_eq xs zs ≡ true) behind (nat_list_eq_equiv.refl xs)
same-before (suc n) [] [] long behind = refl
same-before (suc n) [] (y ∷ ys) long behind = absurd (omega (arith, long))
same-before (suc n) (x ∷ xs) [] long behind = absurd (omega (arith, long))
same-before (suc n) (x ∷ xs) (y ∷ ys) long behind =
    ap (λ rest. nat_eq x y && rest) (same-before n xs ys (omega (arith, long)) behind)
