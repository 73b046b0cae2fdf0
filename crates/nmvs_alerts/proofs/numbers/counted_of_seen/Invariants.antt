use Rattle.std.proofs.Common.{take}
use Rattle.std.specs.List.{AllZip, flat_map}
use Rattle.nmvs_alerts.specs.Numbers.{IsCounted, seen}
use Rattle.nmvs_alerts.proofs.numbers.counted_of_seen.Given as goal

abbrev pub invariant-loop-alert : goal.invariant-loop-alert
invariant-loop-alert g l = AllZip IsCounted (flat_map (seen l.shard l.author) (take l.alert-index l.flagged)) l.counted.items
