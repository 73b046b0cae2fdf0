use Rattle.std.proofs.Common.{◌≡◌, ◌<◌, ℕ, Some, slice_get}
use Rattle.nmvs_metrics.specs.declared.times.TheConstants.{BOUNDS}
use Rattle.nmvs_metrics.proofs.times.bucket_of.Given as goal

abbrev pub invariant-loop-place : goal.invariant-loop-place
invariant-loop-place l = (i bound : ℕ) → i < l.place → slice_get BOUNDS i ≡ Some bound → bound < l.nanoseconds
