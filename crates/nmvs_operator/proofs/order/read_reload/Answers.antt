use Rattle.nmvs_operator.proofs.OrderLemmas.{reload_fault-other}
use Rattle.nmvs_operator.proofs.order.read_reload.Goals as goal

pub returns-in_default-clause-fault : goal.returns-in_default-clause-fault
returns-in_default-clause-fault c =
    reload_fault-other (λ t. t.now) c.args.texts.now _ c.in-len1.len_at_least c.in-len1.len_below c.in_default.not-ALL
