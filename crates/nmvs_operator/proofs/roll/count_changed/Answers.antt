use Rattle.std.proofs.Common.{◌≡◌, ◌+◌, ◌∙◌, Bor, ap, drop, arith}
use Rattle.nmvs_directory.specs.Registrar.{published}
use Rattle.nmvs_directory.specs.Users.{users_of}
use Rattle.nmvs_operator.specs.Roll.{changed_from}
use Rattle.nmvs_operator.proofs.UserLines.{rest_more, none_behind}
use Rattle.nmvs_operator.proofs.roll.count_changed.Goals as goal
use Rattle.nmvs_operator.proofs.roll.count_changed.Goals.{in-Some, in-None}

pub loop-place-preserved : goal.loop-place-preserved
loop-place-preserved g c =
    let users = users_of (published c.args.registrar.now) in
    let place = c.loop-place.place in
    let before = c.loop-place.invariant in
    elim c.match-user.branch [
      | in-Some w ↦
          let one = w.next_changed-one in
          let counted = one.ensures.count (drop (place + 1) users) in
          let more : changed_from c.loop-place.rest.now (drop place users) ≡ one.result.0 + changed_from one.result.1.now (drop (place + 1) users) =
          ap (changed_from c.loop-place.rest.now) (rest_more users place w.in-Some.user w.in-Some.ensures) ∙ counted in
          let same = ap (λ (r : Bor _). changed_from r.now (drop (place + 1) users)) w.rest-is in (
            omega (arith, before.0, more, w.changed-is, same),
            omega (arith, w.changed-is, before.1, one.ensures.few),
          )
      | in-None w ↦ absurd (none_behind users place w.in-None.ensures (omega (arith, c.loop-place-test.true, c.user_count-place-end.ensures)))
    ]
