use Rattle.std.proofs.Common.{◌+◌, ℕ, ap₂, sym, ◌∙◌, arith}
use Rattle.nmvs_directory.specs.Registrar.{published}
use Rattle.nmvs_directory.specs.Users.{users_of}
use Rattle.nmvs_operator.specs.Roll.{is_enrolled, is_suspended}
use Rattle.nmvs_operator.proofs.UserLines.{passing_more, none_behind}
use Rattle.nmvs_operator.proofs.roll.count_users.Goals as goal
use Rattle.nmvs_operator.proofs.roll.count_users.Goals.{in-Some, in-None}

pub loop-place-preserved : goal.loop-place-preserved
loop-place-preserved g c =
    let users = users_of (published c.args.registrar.now) in
    let place = c.loop-place.place in
    let before = c.loop-place.invariant in
    elim c.match-user.branch [
      | in-Some w ↦
          let one = w.count_one-one.ensures in
          let enrolled = passing_more is_enrolled users place w.in-Some.user w.in-Some.ensures in
          let suspended = passing_more is_suspended users place w.in-Some.user w.in-Some.ensures in (
            w.enrolled-is ∙ ap₂ (λ (x y : ℕ). x + y) before.0 one.enrolled ∙ sym enrolled,
            w.suspended-is ∙ ap₂ (λ (x y : ℕ). x + y) before.1 one.suspended ∙ sym suspended,
            omega (arith, w.enrolled-is, before.2, one.few.0),
            omega (arith, w.suspended-is, before.3, one.few.1),
          )
      | in-None w ↦ absurd (none_behind users place w.in-None.ensures (omega (arith, c.loop-place-test.true, c.user_count-place-end.ensures)))
    ]
