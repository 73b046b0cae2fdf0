use Rattle.std.proofs.Common.{◌∙◌, ap, sym, map, rules}
use Rattle.nmvs_messages.specs.Fields.{fields_in}
use Rattle.nmvs_messages.specs.Commands.{fields_fault, first_command_fault}
use Rattle.nmvs_messages.proofs.CommandLemmas.{reads_fields, fields_fault-take}
use Rattle.nmvs_messages.proofs.commands.read_command.Goals as goal

pub returns-in_err-fields : goal.returns-in_err-fields
unfolding first_command_fault
returns-in_err-fields c = let fault = c.in_err-fields.ensures.fault fields_fault in search (rules, fault)

pub returns : goal.returns
unfolding first_command_fault
returns c =
    let kept = ap (map (λ f. f.now)) c.deref.ensures.0 ∙ c.in_ok-fields.ensures.fields in
    let read = c.command_of.ensures in
    reads_fields c.args.bytes.now _ c.command_of.result kept read.fields read.valid
    (read.fault ∙ ap fields_fault kept ∙ fields_fault-take (fields_in c.args.bytes.now) ∙ sym (c.in_ok-fields.ensures.fault fields_fault))
