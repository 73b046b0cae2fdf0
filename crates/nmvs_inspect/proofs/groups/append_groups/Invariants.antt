use Rattle.std.proofs.Common.{◌≡◌, ◌++◌, take}
use Rattle.std.specs.List.{flat_map}
use Rattle.nmvs_inspect.specs.Groups.{group_row}
use Rattle.nmvs_inspect.proofs.groups.append_groups.Given as goal

abbrev pub invariant-loop-group : goal.invariant-loop-group
invariant-loop-group l =
    l.block.items ≡ l.fn.block.items ++ flat_map (group_row l.form l.by) (take l.group-index l.groups)
