use Rattle.nmvs_alerts.proofs.NoHouseLemmas.{no-house}
use Rattle.nmvs_alerts.proofs.laws.no_house_is_shown.Goals as goal

pub returns : goal.returns
returns c = no-house
