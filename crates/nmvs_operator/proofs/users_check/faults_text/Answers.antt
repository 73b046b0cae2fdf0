use Rattle.std.proofs.Common.{rules, ◌<◌, ◌≡◌, ◌++◌, length, codes, string_bytes, arith}
use Rattle.std.proofs.lemmas.Bool.Decides.{nat_tests}
use Rattle.nmvs_operator.specs.UsersFaults.{told_faults}
use Rattle.nmvs_operator.proofs.FaultLemmas.{faults_text-told}
use Rattle.nmvs_operator.proofs.users_check.faults_text.Goals as goal

pub returns : goal.returns
returns c =
    let found = c.in_ok-faults.faults.items in
    let some : 0 < length found = grind (arith, nat_tests, c.is_empty.ensures, c.if-is_empty.false) in
    let text : string_bytes c.push_str.new.self ≡ told_faults found ++ codes "FAULT USERS\n" = search rules in
    faults_text-told found _ _ c.in_ok-faults.ensures some text
