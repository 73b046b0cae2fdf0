use Rattle.std.proofs.Common.{◌≡◌, ◌≤◌, length, take}
use Rattle.std.specs.List.{filter}
use Rattle.nmvs_directory.specs.Registrar.{published}
use Rattle.nmvs_directory.specs.Users.{users_of}
use Rattle.nmvs_operator.specs.Roll.{is_enrolled, is_suspended}
use Rattle.nmvs_operator.proofs.roll.count_users.Given as goal

abbrev pub invariant-loop-place : goal.invariant-loop-place
invariant-loop-place g l =
    (l.enrolled ≡ length (filter is_enrolled (take l.place (users_of (published l.registrar)))))
    × (l.suspended ≡ length (filter is_suspended (take l.place (users_of (published l.registrar)))))
    × (l.enrolled ≤ l.place) × (l.suspended ≤ l.place)
