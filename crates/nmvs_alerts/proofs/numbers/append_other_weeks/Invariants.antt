use Rattle.std.proofs.Common.{◌≡◌, ◌++◌, take}
use Rattle.std.specs.List.{flat_map}
use Rattle.nmvs_alerts.specs.Json.{led}
use Rattle.nmvs_alerts.specs.Numbers.{week_text}
use Rattle.nmvs_alerts.proofs.numbers.append_other_weeks.Given as goal

abbrev pub invariant-loop-other : goal.invariant-loop-other
invariant-loop-other l = l.block.items ≡ l.fn.block.items ++ flat_map (led (week_text l.counted)) (take l.other-index l.others)
