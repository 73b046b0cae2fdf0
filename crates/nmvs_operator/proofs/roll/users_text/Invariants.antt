use Rattle.std.proofs.Common.{◌≡◌, take, string_bytes}
use Rattle.nmvs_directory.specs.Registrar.{published}
use Rattle.nmvs_directory.specs.Users.{users_of}
use Rattle.nmvs_operator.specs.Roll.{user_lines}
use Rattle.nmvs_operator.proofs.roll.users_text.Given as goal

abbrev pub invariant-loop-place : goal.invariant-loop-place
invariant-loop-place g l = string_bytes l.text ≡ user_lines (take l.place (users_of (published l.registrar)))
