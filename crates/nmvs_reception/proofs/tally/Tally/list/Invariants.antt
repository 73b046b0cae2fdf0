use Rattle.std.proofs.Common.{◌≡◌, take}
use Rattle.nmvs_reception.proofs.tally.Tally.list.Given as goal

abbrev pub invariant-loop-place : goal.invariant-loop-place
invariant-loop-place g l = l.list.items ≡ take l.place l.self-inside.users.entries
