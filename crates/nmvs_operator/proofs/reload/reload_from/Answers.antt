use Rattle.std.proofs.Common.{rules, [], ◌<◌, ◌≡◌, ◌∙◌, List, ℕ, Ok, Err, refl, inl, subst, length, string_bytes, arith}
use Rattle.std.proofs.lemmas.Bool.Decides.{nat_tests}
use Rattle.nmvs_operator.specs.declared.faults.ObeyFault.TheVariants as obey
use Rattle.nmvs_operator.specs.declared.order.Order.TheVariants as orders
use Rattle.nmvs_operator.specs.UsersFaults.{faults_from, fault_lines, faults_text}
use Rattle.nmvs_operator.specs.Commands.{saying}
use Rattle.nmvs_operator.specs.Roll.{changed_line}
use Rattle.nmvs_operator.proofs.CommandLemmas.{tells}
use Rattle.nmvs_operator.proofs.FaultLemmas.{faults_text-some}
use Rattle.nmvs_operator.proofs.reload.reload_from.Goals as goal

pub returns-in-Err : goal.returns-in-Err
returns-in-Err g c = (saying [] (Err obey.Memory), (inl refl, refl), tells c.fault_text.ensures c.tell.ensures, refl)

pub returns-then-not-is_empty : goal.returns-then-not-is_empty
returns-then-not-is_empty g c =
    let faults = faults_from 1 c.args.bytes.now in
    let some : 0 < length (string_bytes c.in-Ok.faults) = grind (arith, nat_tests, c.is_empty.ensures, c.if-not-is_empty.true) in
    let listed = faults_text-some faults (subst (λ (t : List ℕ). 0 < length t) c.in-Ok.ensures some) in
    let text : c.deref.result.now ≡ faults_text faults = search rules in (
      saying (fault_lines faults) (Err obey.Users),
      (refl, (c.args.bytes.now, listed.0, refl)),
      tells (text ∙ listed.1) c.tell-then-not-is_empty.ensures,
      refl,
    )

pub returns-in-Err-take_users : goal.returns-in-Err-take_users
returns-in-Err-take_users g c = (
  saying [] (Err c.in-Err-take_users.fault),
  c.in-Err-take_users.ensures,
  tells c.fault_text-in-Err-take_users.ensures c.tell-in-Err-take_users.ensures,
  refl,
)

pub returns : goal.returns
returns g c = (saying (changed_line c.in-Ok-take_users.changed) (Ok (orders.Reload c.args.all)), c.in-Ok-take_users.ensures, tells refl c.tell_changed.ensures, refl)
