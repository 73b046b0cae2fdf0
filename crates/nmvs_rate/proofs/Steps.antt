-- One line at a bucket.
use Rattle.std.proofs.Common.{◌≡◌, ◌≤◌, ◌<◌, ◌+◌, ◌-◌, ◌*◌, ◌∙◌, ℕ, true, false, not, nat_lt, max, sym, ap, arith, mul-add}
use Rattle.std.proofs.lemmas.Bool.Decides.{nat_tests}
use Rattle.nmvs_rate.specs.declared.rate.Rate.{Rate}
use Rattle.nmvs_rate.specs.declared.bucket.Bucket.{Bucket}
use Rattle.nmvs_rate.specs.Buckets.{LINE, filled, passes}

-- the bucket after a line was taken out
abbrev pub taken : Rate → Bucket → ℕ → Bucket
taken rate bucket now = record { parts = filled rate bucket now - LINE; moment = max bucket.moment now }

-- a whole line is there if one is let through
pub whole : (rate : Rate) (bucket : Bucket) (now : ℕ) → passes rate bucket now ≡ true → LINE ≤ filled rate bucket now
whole rate bucket now e = at (filled rate bucket now) e
  where
    at : (n : ℕ) → not (nat_lt n LINE) ≡ true → LINE ≤ n
    at n e = grind (arith, nat_tests)

-- and no whole one if a line is refused
pub less : (rate : Rate) (bucket : Bucket) (now : ℕ) → passes rate bucket now ≡ false → filled rate bucket now < LINE
less rate bucket now e = at (filled rate bucket now) e
  where
    at : (n : ℕ) → not (nat_lt n LINE) ≡ false → n < LINE
    at n e = grind (arith, nat_tests)

-- the parts that come in until one moment, and then until another
pub gained : (lines at now to : ℕ) → now ≤ to → lines * (now - at) + lines * (to - max at now) ≡ lines * (to - at)
gained lines at now to e = sym (mul-add lines (now - at) (to - max at now)) ∙ ap (λ (n : ℕ). lines * n) (omega (arith, e))
