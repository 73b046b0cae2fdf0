use Rattle.std.proofs.Common.{rules, [], Ok, Err, refl, string_bytes}
use Rattle.nmvs_operator.specs.declared.faults.ObeyFault.TheVariants as obey
use Rattle.nmvs_operator.specs.declared.order.Fixed.TheVariants as fixed
use Rattle.nmvs_operator.specs.declared.order.Order.TheVariants as orders
use Rattle.nmvs_operator.specs.Orders.{help_lines}
use Rattle.nmvs_operator.specs.Commands.{saying}
use Rattle.nmvs_operator.proofs.CommandLemmas.{tells, lists_told, serves_following}
use Rattle.nmvs_operator.proofs.commands.obey_one.Goals as goal

pub returns-in-Err : goal.returns-in-Err
returns-in-Err g c = (
  saying [] (Err (obey.Unread c.in-Err.fault)),
  (Err c.in-Err.fault, c.in-Err.ensures, (refl, refl)),
  tells c.fault_text.ensures c.tell.ensures,
  refl,
)

pub returns-in-Fixed-Help : goal.returns-in-Fixed-Help
returns-in-Fixed-Help g c =
    let told = lists_told (orders.Fixed fixed.Help) help_lines (g.W.Sink.taken c.args.sink.now) (g.W.Sink.taken c.tell_made.new.sink)
    string_bytes c.help_text.result refl c.help_text.ensures c.tell_made.ensures in
    (told.0, (Ok (orders.Fixed fixed.Help), search rules, (told.1, refl)), told.2, told.3)

pub returns-in_default : goal.returns-in_default
returns-in_default g c =
    let told = c.serve.ensures in
    (told.0, (Ok c.in-Ok.order, c.in-Ok.ensures, serves_following g.S.Perform.does _ c.in-Ok.order told.0 _ (search rules) told.1), told.2, told.3)
