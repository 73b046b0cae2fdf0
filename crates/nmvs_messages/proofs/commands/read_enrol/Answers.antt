use Rattle.std.proofs.Common.{sym, map, arith}
use Rattle.std.proofs.lemmas.List.{length-map}
use Rattle.nmvs_messages.proofs.CommandLemmas.{enrol_fault-few}
use Rattle.nmvs_messages.proofs.commands.read_enrol.Goals as goal

pub returns-in_default-clause-fault : goal.returns-in_default-clause-fault
returns-in_default-clause-fault c =
    let counted = length-map c.args.texts.now (λ t. t.now) in
    sym (enrol_fault-few (map (λ t. t.now) c.args.texts.now) (omega (arith, counted, c.in_default.len_below)))
