use Rattle.std.proofs.Common.{◌≡◌, ◌≤◌, take}
use Rattle.std.specs.Prelude.{count_by}
use Rattle.nmvs_alerts.specs.Judging.{is_counted, on_in}
use Rattle.nmvs_alerts.proofs.judging.count.Given as goal

abbrev pub invariant-loop-alert : goal.invariant-loop-alert
invariant-loop-alert g l =
    (l.number ≡ count_by (λ f. is_counted l.at_all (on_in l.shard l.line f)) (take l.alert-index l.flagged)) × (l.number ≤ l.alert-index)
