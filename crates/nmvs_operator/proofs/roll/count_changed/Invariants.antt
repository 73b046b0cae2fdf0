use Rattle.std.proofs.Common.{◌≡◌, ◌≤◌, ◌+◌, drop}
use Rattle.nmvs_directory.specs.Registrar.{published}
use Rattle.nmvs_directory.specs.Users.{users_of}
use Rattle.nmvs_operator.specs.Roll.{changed_from}
use Rattle.nmvs_operator.proofs.roll.count_changed.Given as goal

abbrev pub invariant-loop-place : goal.invariant-loop-place
invariant-loop-place g l =
    let users = users_of (published l.registrar) in
    (changed_from l.fn.before users ≡ l.changed + changed_from l.rest (drop l.place users)) × (l.changed ≤ l.place)
