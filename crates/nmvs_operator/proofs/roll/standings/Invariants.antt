use Rattle.std.proofs.Common.{◌≡◌, map, take}
use Rattle.nmvs_directory.specs.Registrar.{published}
use Rattle.nmvs_directory.specs.Users.{users_of}
use Rattle.nmvs_operator.proofs.roll.standings.Given as goal

abbrev pub invariant-loop-place : goal.invariant-loop-place
invariant-loop-place g l = l.states.items ≡ map (λ user. user.1) (take l.place (users_of (published l.registrar)))
