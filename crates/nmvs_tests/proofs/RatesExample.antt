-- Buckets of lines.
use Rattle.std.proofs.Common.{◌≡◌, ℕ, Bool, true, false, List, [], ◌∷◌, refl}
use Rattle.std.specs.Prelude.{map}
use Rattle.nmvs_rate.specs.declared.rate.Rate.{Rate}
use Rattle.nmvs_rate.specs.declared.bucket.Bucket.{Bucket}
use Rattle.nmvs_rate.specs.Buckets.{full, passes, after}

-- whether each line is let through, of lines that are asked at these moments
abbrev let_through : Rate → Bucket → List ℕ → List Bool
let_through rate bucket [] = []
let_through rate bucket (now ∷ later) = passes rate bucket now ∷ let_through rate (after rate bucket now) later

abbrev asked : Rate → List (ℕ × Bool) → Type 0
asked rate lines = let_through rate (full rate 0) (map (λ l. l.0) lines) ≡ map (λ l. l.1) lines

-- at two lines a second, and three at once, a line comes in each half second; an earlier moment brings none
two-a-second : asked (record { lines = 2; burst = 3 }) (
    (0, true) ∷ (0, true) ∷ (0, true) ∷ (0, false)
    ∷ (499, false) ∷ (500, true) ∷ (999, false) ∷ (1_000, true)
    ∷ (60_000, true) ∷ (60_000, true) ∷ (60_000, true) ∷ (60_000, false)
    ∷ (59_000, false) ∷ (60_500, true) ∷ (18_446_744_073_709_551_615, true)
    ∷ [])
two-a-second = refl
