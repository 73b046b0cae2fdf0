use Rattle.std.proofs.Common.{◌≡◌, ◌++◌, take}
use Rattle.std.specs.List.{flat_map}
use Rattle.nmvs_alerts.specs.Json.{led}
use Rattle.nmvs_alerts.specs.Pages.{row_of}
use Rattle.nmvs_alerts.proofs.pages.append_others.Given as goal

abbrev pub invariant-loop-other : goal.invariant-loop-other
invariant-loop-other g l = l.block.items ≡ l.fn.block.items ++ flat_map (led (row_of l.shard l.with_house)) (take l.other-index l.others)
