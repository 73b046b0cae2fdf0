-- Combined tests.
use Rattle.std.proofs.Common.{◌≡◌, Bool, true, false, ◌||◌, cond, refl, sym, true≢false}

-- a test whose passing is absurd fails
pub not-so : (b : Bool) → (b ≡ true → false ≡ true) → b ≡ false
not-so true h = sym (h refl)
not-so false h = refl

-- if neither passes, the first does not
pub or-left : (a b : Bool) → (a || b) ≡ false → a ≡ false
or-left true b h = h
or-left false b h = refl

-- nor does the second
pub or-right : (a b : Bool) → (a || b) ≡ false → b ≡ false
or-right true b h = absurd (true≢false h)
or-right false b h = h

-- a choice between equals is either
pub same-either : {X : Type 0} (b : Bool) (x : X) → cond b x x ≡ x
same-either true x = refl
same-either false x = refl
