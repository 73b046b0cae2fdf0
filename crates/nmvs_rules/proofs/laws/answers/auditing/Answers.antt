use Rattle.nmvs_rules.proofs.AuditLemmas.{shown-audit, shown-counted, shown-refused, shown-others}
use Rattle.nmvs_rules.proofs.laws.answers.auditing.Goals as goal

pub returns-clause-shown : goal.returns-clause-shown
returns-clause-shown c = λ t q p is may. (shown-audit t q p is may, shown-counted t q p is may)

pub returns-clause-hidden : goal.returns-clause-hidden
returns-clause-hidden c = shown-refused

pub returns-clause-others : goal.returns-clause-others
returns-clause-others c = shown-others
