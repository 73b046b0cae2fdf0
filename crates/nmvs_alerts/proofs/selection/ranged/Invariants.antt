use Rattle.std.proofs.Common.{◌≡◌, take}
use Rattle.nmvs_alerts.specs.Answers.{ranged}
use Rattle.nmvs_alerts.proofs.selection.ranged.Given as goal

abbrev pub invariant-loop-alert : goal.invariant-loop-alert
invariant-loop-alert g l = l.found.items ≡ ranged l.shard l.author l.code l.fn.hinted (take l.alert-index l.flagged)
