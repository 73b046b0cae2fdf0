use Rattle.nmvs_shard.proofs.Alerts.{copied}
use Rattle.nmvs_shard.proofs.laws.late_copies.Goals as goal

pub returns : goal.returns
returns c = copied
