use Rattle.std.proofs.Common.{◌∙◌, Option, ap, sym, map}
use Rattle.nmvs_identifier.specs.Tag.{Tag}
use Rattle.nmvs_messages.specs.declared.ask.LineFault.{LineFault}
use Rattle.nmvs_messages.specs.declared.ask.LineFault.TheVariants as fault
use Rattle.nmvs_messages.specs.Fields.{fields_in, line_fault}
use Rattle.nmvs_protocol.specs.Lines.{fields_fault, fault_behind, first_fault}
use Rattle.nmvs_protocol.proofs.SpellingLemmas.{reads_fields, reads_tagged, fields_fault-take}
use Rattle.nmvs_protocol.proofs.lines.read_line.Goals as goal

pub returns-in-Ok : goal.returns-in-Ok
returns-in-Ok c =
    let kept = ap (map (λ f. f.now)) c.deref.ensures.0 ∙ c.in-Ok.ensures.fields in
    let read = c.read_fields.ensures in
    reads_fields c.args.bytes.now _ c.read_fields.result c.in_default.ensures.none kept
    (ap fields_fault kept ∙ fields_fault-take (fields_in c.args.bytes.now) ∙ sym (c.in-Ok.ensures.fault fields_fault)
    ∙ ap (λ (f : LineFault). line_fault fault.Long f fault.Fields fields_fault c.args.bytes.now) c.byte_fault-fault.ensures)
    read.untagged read.fields read.valid read.fault

pub returns-in-Err : goal.returns-in-Err
unfolding first_fault
returns-in-Err c = (
  ap (λ (g : Option Tag). fault_behind g c.args.bytes.now) c.in_default.ensures.none
      ∙ ap (λ (f : LineFault). line_fault fault.Long f fault.Fields fields_fault c.args.bytes.now) (sym c.byte_fault-fault.ensures) ∙ c.in-Err.ensures.fault fields_fault,
  sym c.in_default.ensures.none,
)

pub returns-in-Ok-read_tagged : goal.returns-in-Ok-read_tagged
returns-in-Ok-read_tagged c =
    let cut = c.in-Some.ensures in
    let read = c.in-Ok-read_tagged.ensures in
    reads_tagged c.args.bytes.now _ _ c.in-Ok-read_tagged.asked cut.tag cut.behind read.text read.valid read.fault
