use Rattle.std.proofs.Common.{◌≡◌, take, string_bytes}
use Rattle.nmvs_operator.specs.UsersFaults.{told_faults}
use Rattle.nmvs_operator.proofs.users_check.fault_lines.Given as goal

abbrev pub invariant-loop-found : goal.invariant-loop-found
invariant-loop-found l = string_bytes l.text ≡ told_faults (take l.found-index l.faults)
