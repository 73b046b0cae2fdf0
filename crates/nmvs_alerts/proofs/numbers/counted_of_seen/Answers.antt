use Rattle.std.proofs.Common.{List, arith, subst}
use Rattle.std.specs.List.{AllZip}
use Rattle.nmvs_alerts.specs.declared.alert.FlaggedAlert.{FlaggedAlert}
use Rattle.nmvs_alerts.specs.Numbers.{IsCounted, seen}
use Rattle.nmvs_alerts.proofs.JsonLemmas.{piece-more}
use Rattle.nmvs_alerts.proofs.numbers.counted_of_seen.Goals as goal

pub loop-alert-preserved : goal.loop-alert-preserved
loop-alert-preserved g c =
    subst (λ (alerts : List FlaggedAlert). AllZip IsCounted alerts c.append_if_seen.new.counted.items)
    (piece-more (seen c.args.shard.now c.args.author.now) c.args.flagged.now c.loop-alert.alert-index c.alert-item.result (omega arith) c.alert-item.is)
    (c.in_ok-append_if_seen.ensures _ c.loop-alert.invariant)
