use Rattle.std.proofs.Common.{◌≡◌, false, take}
use Rattle.std.specs.List.{list_any}
use Rattle.nmvs_inspect.specs.Filter.{takes}
use Rattle.nmvs_inspect.proofs.selection.takes_any.Given as goal

abbrev pub invariant-loop-place : goal.invariant-loop-place
invariant-loop-place g l = list_any (takes l.filter l.shard) (take l.place l.shard) ≡ false
