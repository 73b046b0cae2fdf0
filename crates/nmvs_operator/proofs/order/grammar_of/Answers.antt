use Rattle.std.proofs.Common.{rules}
use Rattle.nmvs_operator.proofs.OrderLemmas.{in_rows}
use Rattle.nmvs_operator.proofs.order.grammar_of.Goals as goal

pub returns : goal.returns
returns c = search (rules, in_rows)
