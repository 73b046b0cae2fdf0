use Rattle.nmvs_shard.proofs.Alerts.{kept}
use Rattle.nmvs_shard.proofs.laws.no_alert_is_lost.Goals as goal

pub returns : goal.returns
returns c = kept
