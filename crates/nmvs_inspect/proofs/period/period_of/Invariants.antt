use Rattle.std.proofs.Common.{◌≡◌, take}
use Rattle.nmvs_inspect.specs.Period.{period_of}
use Rattle.nmvs_inspect.proofs.period.period_of.Given as goal

abbrev pub invariant-loop-place : goal.invariant-loop-place
invariant-loop-place g l = l.period ≡ period_of (take l.place l.shard)
