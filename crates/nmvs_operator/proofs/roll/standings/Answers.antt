use Rattle.std.proofs.Common.{◌∙◌, ◌++◌, ◌∷◌, [], ap, sym, arith}
use Rattle.nmvs_directory.specs.Registrar.{published}
use Rattle.nmvs_directory.specs.Users.{users_of}
use Rattle.nmvs_operator.proofs.UserLines.{states_more, none_behind}
use Rattle.nmvs_operator.proofs.roll.standings.Goals as goal
use Rattle.nmvs_operator.proofs.roll.standings.Goals.{in-Some+in_ok-push-in-Some, in-None}

pub loop-place-preserved : goal.loop-place-preserved
loop-place-preserved g c =
    let users = users_of (published c.args.registrar.now) in
    let place = c.loop-place.place in
    elim c.match-user.branch [
      | in-Some+in_ok-push-in-Some w ↦
          let user = w.in-Some.user in
          rw w.states-is (
          w.in_ok-push-in-Some.ensures.items
          ∙ ap (λ t. t ++ user.1 ∷ []) c.loop-place.invariant
          ∙ sym (states_more (λ user. user.1) users place user w.in-Some.ensures)
          )
      | in-None w ↦ absurd (none_behind users place w.in-None.ensures (omega (arith, c.loop-place-test.true, c.user_count-place-end.ensures)))
    ]
