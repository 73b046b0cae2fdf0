use Rattle.nmvs_reports.proofs.AlertNameLemmas.{names-once}
use Rattle.nmvs_reports.proofs.laws.alert_names.Goals as goal

pub returns : goal.returns
returns c = names-once
