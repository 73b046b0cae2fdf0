-- The texts of a line are cut out of it.
use Rattle.std.proofs.Common.{◌≡◌, ◌≢◌, ◌<◌, ◌==◌, not, ℕ, suc, Bool, true, false, List, [], ◌∷◌, ◌++◌, length, get_or, Option, Some, None, Bor, option_map, eq-eqb, refl, sym, ap, ◌∙◌, arith}
use Rattle.std.specs.Prelude.{MatchOption}
use Rattle.std.specs.List.{list_all}
use Rattle.std.proofs.lemmas.Bool.{and_parts, ne_eqb}
use Rattle.std.proofs.lemmas.Str.Pattern.{IsSplitOnceResult, split_parts}
use Rattle.nmvs_cases.specs.Pieces.{cut}

-- whether a text has no such byte
abbrev pub lacks : ℕ → List ℕ → Bool
lacks m t = list_all (λ b. not (b == m)) t

abbrev before : ℕ → List ℕ × List ℕ → List ℕ × List ℕ
before b p = (b ∷ p.0, p.1)

abbrev IsWithout : ℕ → List ℕ → Type 0
IsWithout m t = (i : ℕ) → i < length t → get_or t i 0 ≢ m

cut-none : (m : ℕ) (bs : List ℕ) → IsWithout m bs → cut m bs ≡ None
cut-none m [] none = refl
cut-none m (b ∷ bs) none =
    let first : (b == m) ≡ false = ne_eqb b m (none 0 (omega arith)) in
    rw first (ap (λ o. option_map (before b) o) (cut-none m bs (λ i l. none (suc i) (omega (arith, l)))))

cut-some : (m : ℕ) (x y : List ℕ) → IsWithout m x → cut m (x ++ m ∷ y) ≡ Some (x, y)
cut-some m [] y none = rw (eq-eqb m m refl) refl
cut-some m (b ∷ x) y none =
    let first : (b == m) ≡ false = ne_eqb b m (none 0 (omega arith)) in
    rw first (ap (λ o. option_map (before b) o) (cut-some m x y (λ i l. none (suc i) (omega (arith, l)))))

pub cut-as : (m : ℕ) (bs : List ℕ) (r : Option (Bor (List ℕ) × Bor (List ℕ))) → IsSplitOnceResult m bs r → m < 128 → option_map (λ p. (p.0.now, p.1.now)) r ≡ cut m bs
cut-as m bs r is small = by r (split_parts m bs r is small)
  where
    by : (o : Option (Bor (List ℕ) × Bor (List ℕ))) → MatchOption o (IsWithout m bs) (λ x. (bs ≡ x.0.now ++ m ∷ x.1.now) × IsWithout m x.0.now) → option_map (λ p. (p.0.now, p.1.now)) o ≡ cut m bs
    by None none = sym (cut-none m bs none)
    by (Some x) parts = sym (ap (cut m) parts.0 ∙ cut-some m x.0.now x.1.now parts.1)

not-true : (b : Bool) → not b ≡ true → b ≡ false
not-true true h = sym h
not-true false h = refl

-- a text is cut out at the first mark after it
pub cut-at : (m : ℕ) (x y : List ℕ) → lacks m x ≡ true → cut m (x ++ m ∷ y) ≡ Some (x, y)
cut-at m [] y h = rw (eq-eqb m m refl) refl
cut-at m (b ∷ x) y h =
    let parts = and_parts (not (b == m)) (lacks m x) h in
    let first : (b == m) ≡ false = not-true (b == m) parts.0 in
    rw first (ap (λ o. option_map (before b) o) (cut-at m x y parts.1))
