use Rattle.std.proofs.Common.{◌≡◌, ◌++◌, take}
use Rattle.std.specs.List.{flat_map}
use Rattle.nmvs_alerts.specs.Selection.{wanted}
use Rattle.nmvs_alerts.proofs.selection.append_wanted.Given as goal

abbrev pub invariant-loop-alert : goal.invariant-loop-alert
invariant-loop-alert g l = l.found.items ≡ l.fn.found.items ++ flat_map (wanted l.shard l.author l.wanted l.hinted) (take l.alert-index l.flagged)
