-- The laws of a rate, in thousandths of a line and in milliseconds (own).
use Rattle.std.specs.Prelude.{◌≡◌, ◌≤◌, ◌<◌, ℕ, false, nat_le, ◌+◌, ◌-◌, ◌*◌, List, [], ◌∷◌, ◌++◌, length, All, count_by}
use Rattle.nmvs_rate.specs.declared.rate.Rate.{Rate}
use Rattle.nmvs_rate.specs.declared.bucket.Bucket.{Bucket}
use Rattle.nmvs_rate.specs.Buckets.{LINE, full, passes, passing, after_all}

-- the thousandths of lines that a rate has in a span: the burst, and a line's thousandth a millisecond for each line a second
abbrev pub allowed : Rate → ℕ → ℕ → ℕ
allowed rate from to = rate.burst * LINE + rate.lines * (to - from)

-- of lines that are all asked between two moments no more are let through than the rate has in that span, whatever was asked
-- before
abbrev pub NeverMore : Type 0
NeverMore =
    (rate : Rate) (bucket : Bucket) (from to : ℕ) (moments : List ℕ) →
    All (λ m. (from ≤ m) × (m ≤ to)) moments → length (passing rate bucket moments) * LINE ≤ allowed rate from to

-- each moment is at or after the one before it
abbrev pub Ascends : ℕ → List ℕ → Type 0
Ascends from [] = Unit {0}
Ascends from (m ∷ ms) = (from ≤ m) × Ascends m ms

-- the user began with a full bucket and asked lines in order. Then a refused line would be one more than the rate has
-- since some moment.
abbrev pub NeverFewer : Type 0
NeverFewer =
    (rate : Rate) (begun : ℕ) (moments : List ℕ) (now : ℕ) →
    1 ≤ rate.burst → Ascends begun (moments ++ now ∷ []) →
    passes rate (after_all rate (full rate begun) moments) now ≡ false →
    (from : ℕ) × (from ≤ now) × (allowed rate from now < (count_by (nat_le from) (passing rate (full rate begun) moments) + 1) * LINE)
