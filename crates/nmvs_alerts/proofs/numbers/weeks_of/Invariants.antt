use Rattle.std.proofs.Common.{◌≡◌, take}
use Rattle.nmvs_alerts.specs.Numbers.{weeks_of}
use Rattle.nmvs_alerts.proofs.numbers.weeks_of.Given as goal

abbrev pub invariant-loop-it : goal.invariant-loop-it
invariant-loop-it l = l.weeks.items ≡ weeks_of (take l.it-index l.counted)
