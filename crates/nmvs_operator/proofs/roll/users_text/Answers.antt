use Rattle.std.proofs.Common.{◌++◌, List, ℕ, ap₂, sym, ◌∙◌, arith}
use Rattle.nmvs_directory.specs.Registrar.{published}
use Rattle.nmvs_directory.specs.Users.{users_of}
use Rattle.nmvs_operator.specs.Roll.{user_line}
use Rattle.nmvs_operator.proofs.UserLines.{lines_more, none_behind}
use Rattle.nmvs_operator.proofs.roll.users_text.Goals as goal
use Rattle.nmvs_operator.proofs.roll.users_text.Goals.{in-Some+in_ok-line-in-Some+in_ok-push_str-in-Some, in-None}

pub loop-place-preserved : goal.loop-place-preserved
loop-place-preserved g c =
    let users = users_of (published c.args.registrar.now) in
    let place = c.loop-place.place in
    elim c.match-user.branch [
      | in-Some+in_ok-line-in-Some+in_ok-push_str-in-Some w ↦
          let line = w.deref.ensures ∙ w.in_ok-line-in-Some.ensures in
          rw w.text-is (
          w.in_ok-push_str-in-Some.ensures.bytes
          ∙ ap₂ (λ (x y : List ℕ). x ++ y) c.loop-place.invariant line
          ∙ sym (lines_more user_line users place w.in-Some.user w.in-Some.ensures)
          )
      | in-None w ↦ absurd (none_behind users place w.in-None.ensures (omega (arith, c.loop-place-test.true, c.user_count-place-end.ensures)))
    ]
