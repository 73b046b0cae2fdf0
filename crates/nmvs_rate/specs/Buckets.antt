-- The lines that a user may still ask (own). Moments are in milliseconds since some beginning.
use Rattle.std.specs.Prelude.{ℕ, Bool, ◌+◌, ◌-◌, ◌*◌, min, max, not, nat_lt, if◌then◌else◌, List, [], ◌∷◌}
use Rattle.nmvs_rate.specs.declared.rate.Rate.{Rate}
use Rattle.nmvs_rate.specs.declared.bucket.Bucket.{Bucket}

-- the number of parts of a line: at one line a second a part comes in each millisecond
abbrev pub LINE : ℕ
LINE = 1000

-- a bucket with all lines of the burst
abbrev pub full : Rate → ℕ → Bucket
full rate now = record { parts = rate.burst * LINE; moment = now }

-- the parts that are there at a moment: those that were left and those that came in since, up to the burst
abbrev pub filled : Rate → Bucket → ℕ → ℕ
filled rate bucket now = min (bucket.parts + rate.lines * (now - bucket.moment)) (rate.burst * LINE)

-- whether a line is let through: if a whole one is there
abbrev pub passes : Rate → Bucket → ℕ → Bool
passes rate bucket now = not (nat_lt (filled rate bucket now) LINE)

-- the bucket after a line was asked at a moment: a refused one takes nothing
abbrev pub after : Rate → Bucket → ℕ → Bucket
after rate bucket now =
    if passes rate bucket now then record { parts = filled rate bucket now - LINE; moment = max bucket.moment now } else bucket

-- the moments of the lines that are let through, of lines that are asked at these moments
abbrev pub passing : Rate → Bucket → List ℕ → List ℕ
passing rate bucket [] = []
passing rate bucket (now ∷ later) =
    let rest = passing rate (after rate bucket now) later in
    if passes rate bucket now then now ∷ rest else rest

-- the bucket after lines were asked at these moments
abbrev pub after_all : Rate → Bucket → List ℕ → Bucket
after_all rate bucket [] = bucket
after_all rate bucket (now ∷ later) = after_all rate (after rate bucket now) later
