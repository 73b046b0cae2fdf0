use Rattle.std.proofs.Common.{◌≡◌, ◌++◌, take}
use Rattle.std.specs.List.{flat_map}
use Rattle.nmvs_inspect.specs.Weeks.{bar}
use Rattle.nmvs_inspect.proofs.weeks.append_bars.Given as goal

abbrev pub invariant-loop-group : goal.invariant-loop-group
invariant-loop-group l = l.block.items ≡ l.fn.block.items ++ flat_map bar (take l.group-index l.groups)
