use Rattle.nmvs_rules.proofs.AlertingLemmas.{verification-alerts, decommissioning-alerts, unknown-alerts, locked-alerts, own-alerts}
use Rattle.nmvs_rules.proofs.laws.answers.alerting.Goals as goal

pub returns-clause-verification : goal.returns-clause-verification
returns-clause-verification c = verification-alerts

pub returns-clause-decommissioning : goal.returns-clause-decommissioning
returns-clause-decommissioning c = decommissioning-alerts

pub returns-clause-unknown : goal.returns-clause-unknown
returns-clause-unknown c = unknown-alerts

pub returns-clause-locked : goal.returns-clause-locked
returns-clause-locked c = locked-alerts

pub returns-clause-own : goal.returns-clause-own
returns-clause-own c = own-alerts
