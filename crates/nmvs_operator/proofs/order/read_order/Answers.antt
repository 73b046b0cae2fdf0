use Rattle.std.proofs.Common.{◌∙◌, ap, sym, map, rules}
use Rattle.nmvs_messages.specs.Fields.{fields_in}
use Rattle.nmvs_operator.specs.Orders.{order_fault, first_order_fault}
use Rattle.nmvs_operator.proofs.OrderLemmas.{reads_fields, order_fault-take}
use Rattle.nmvs_operator.proofs.order.read_order.Goals as goal

pub returns-in_err-fields : goal.returns-in_err-fields
unfolding first_order_fault
returns-in_err-fields c = let fault = c.in_err-fields.ensures.fault order_fault in search (rules, fault)

pub returns : goal.returns
unfolding first_order_fault
returns c =
    let kept = ap (map (λ f. f.now)) c.deref.ensures.0 ∙ c.in_ok-fields.ensures.fields in
    let read = c.read_fields.ensures in
    reads_fields c.args.line.now _ c.read_fields.result kept read.fields read.valid
    (read.fault ∙ ap order_fault kept ∙ order_fault-take (fields_in c.args.line.now) ∙ sym (c.in_ok-fields.ensures.fault order_fault))
