use Rattle.nmvs_rules.proofs.AlertLemmas.{alerts-numbered}
use Rattle.nmvs_rules.proofs.laws.answers.alerts.Goals as goal

pub returns : goal.returns
returns c = alerts-numbered
