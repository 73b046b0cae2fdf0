use Rattle.std.proofs.Common.{rules, subst, [], Ok, Err, refl, string_bytes}
use Rattle.nmvs_directory.specs.Registrar.{register_of, published}
use Rattle.nmvs_directory.specs.Users.{users_of}
use Rattle.nmvs_operator.specs.declared.faults.ObeyFault.TheVariants as obey
use Rattle.nmvs_operator.specs.declared.order.Fixed.TheVariants as fixed
use Rattle.nmvs_operator.specs.declared.order.Order.{Order}
use Rattle.nmvs_operator.specs.declared.order.Order.TheVariants as orders
use Rattle.nmvs_operator.specs.Orders.{ReadsOrder, help_lines}
use Rattle.nmvs_operator.specs.Roll.{user_lines}
use Rattle.nmvs_operator.specs.Commands.{office, ways, saying}
use Rattle.nmvs_operator.proofs.CommandLemmas.{tells, lists_told, change_told, serves_read}
use Rattle.nmvs_operator.proofs.commands.obey_line.Goals as goal

pub returns-in-Err : goal.returns-in-Err
returns-in-Err g c = (
  saying [] (Err (obey.Unread c.in-Err.fault)),
  (Err c.in-Err.fault, c.in-Err.ensures, (refl, refl)),
  tells c.fault_text.ensures c.tell.ensures,
  refl,
)

pub returns-in-Change : goal.returns-in-Change
returns-in-Change g c =
    let old = office (register_of c.args.registrar.now) c.args.latest.now c.args.service.now in
    let new = office (register_of c.change.new.registrar) c.change.new.latest c.change.new.service in
    change_told (ways g.S.Perform.does g.S.Service.keeps) old new c.args.line.now c.in-Change.command (g.W.Sink.taken c.args.sink.now) (g.W.Sink.taken c.tell_end.new.sink)
    c.change.result (subst (λ (o : Order). ReadsOrder c.args.line.now (Ok o)) c.in-Change.is c.in-Ok.ensures) c.change.ensures.answers c.tell_end.ensures

pub returns-in-Reload : goal.returns-in-Reload
returns-in-Reload g c =
    let told = c.reload.ensures in
    (told.0, (Ok (orders.Reload c.in-Reload.all), subst (λ (o : Order). ReadsOrder c.args.line.now (Ok o)) c.in-Reload.is c.in-Ok.ensures, told.1), told.2, told.3)

pub returns-in-Fixed-Users : goal.returns-in-Fixed-Users
returns-in-Fixed-Users g c =
    let told = lists_told (orders.Fixed fixed.Users) (user_lines (users_of (published c.args.registrar.now))) (g.W.Sink.taken c.args.sink.now) (g.W.Sink.taken c.tell_made.new.sink)
    string_bytes c.users_text.result refl c.users_text.ensures c.tell_made.ensures in
    (told.0, (Ok (orders.Fixed fixed.Users), search rules, (told.1, refl)), told.2, told.3)

pub returns-in-Fixed-Help : goal.returns-in-Fixed-Help
returns-in-Fixed-Help g c =
    let told = lists_told (orders.Fixed fixed.Help) help_lines (g.W.Sink.taken c.args.sink.now) (g.W.Sink.taken c.tell_made-in-Fixed-Help.new.sink)
    string_bytes c.help_text.result refl c.help_text.ensures c.tell_made-in-Fixed-Help.ensures in
    (told.0, (Ok (orders.Fixed fixed.Help), search rules, (told.1, refl)), told.2, told.3)

pub returns-in_default : goal.returns-in_default
returns-in_default g c =
    let told = c.serve.ensures in
    let old = office (register_of c.args.registrar.now) c.args.latest.now c.args.service.now in (
      told.0,
      (Ok c.in-Ok.order, c.in-Ok.ensures, serves_read (ways g.S.Perform.does g.S.Service.keeps) old c.in-Ok.order told.0 c.serve.new.server (search rules) (search rules) (search rules) (search rules) told.1),
      told.2,
      told.3,
    )
