-- The buckets of all users (own).
use Rattle.std.specs.Prelude.{◌≡◌, ℕ, Bool, false, Option, None, Some}
use Rattle.std.specs.HashMap.{HashMap, get}
use Rattle.nmvs_identifier.specs.Name.{Name}
use Rattle.nmvs_identifier.specs.Texts.{same_text}
use Rattle.nmvs_rate.specs.declared.rate.Rate.{Rate}
use Rattle.nmvs_rate.specs.declared.bucket.Bucket.{Bucket}
use Rattle.nmvs_rate.specs.Buckets.{full, passes, after}

-- the bucket of a user
abbrev pub bucket_of : {S : Type 0} → HashMap Name Bucket S → Name → Option Bucket
bucket_of buckets user = get same_text buckets user

-- the bucket that a line is asked of: that of a user who has none yet is full
abbrev pub asked_of : Rate → Option Bucket → ℕ → Bucket
asked_of rate None now = full rate now
asked_of rate (Some bucket) now = bucket

-- whether a line of a user with this bucket, if with one, is let through
abbrev pub passes_by : Rate → Option Bucket → ℕ → Bool
passes_by rate bucket now = passes rate (asked_of rate bucket now) now

-- a line of a user was asked at a moment: the user has the bucket after it, and all others have theirs
pub record Asks {S : Type 0} (rate : Rate) (old : HashMap Name Bucket S) (user : Name) (now : ℕ) (new : HashMap Name Bucket S) : Type 0 where
  pub own : bucket_of new user ≡ Some (after rate (asked_of rate (bucket_of old user) now) now)
  pub others : (other : Name) → same_text user other ≡ false → bucket_of new other ≡ bucket_of old other

-- each user keeps its bucket
abbrev pub Keeps : {S : Type 0} → HashMap Name Bucket S → HashMap Name Bucket S → Type 0
Keeps old new = (user : Name) → bucket_of new user ≡ bucket_of old user
