use Rattle.std.proofs.Common.{◌≡◌, take}
use Rattle.nmvs_check.specs.Answers.{codes_named}
use Rattle.nmvs_check.proofs.answers.codes_named.Given as goal

abbrev pub invariant-loop-place : goal.invariant-loop-place
invariant-loop-place l = l.codes.keys ≡ codes_named (take l.place l.shard)
