use Rattle.std.proofs.Common.{◌≡◌, ◌++◌, take}
use Rattle.std.specs.List.{flat_map}
use Rattle.nmvs_alerts.specs.Json.{led}
use Rattle.nmvs_alerts.proofs.json.append_all_led.Given as goal

abbrev pub invariant-loop-other : goal.invariant-loop-other
invariant-loop-other l = l.block.items ≡ l.fn.block.items ++ flat_map (λ text. led (λ bytes. bytes) text.now) (take l.other-index l.others)
