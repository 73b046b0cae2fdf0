use Rattle.std.proofs.Common.{◌≡◌, ◌≤◌, take}
use Rattle.nmvs_check.specs.Answers.{tagged_of}
use Rattle.nmvs_check.proofs.answers.tagged_of.Given as goal

abbrev pub invariant-loop-place : goal.invariant-loop-place
invariant-loop-place l = (l.count ≡ tagged_of (take l.place l.shard)) × (l.count ≤ l.place)
