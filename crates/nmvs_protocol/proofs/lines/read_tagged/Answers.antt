use Rattle.std.proofs.Common.{◌∙◌, Some, ap, sym, map, cond, rules}
use Rattle.nmvs_messages.specs.declared.ask.LineFault.TheVariants as fault
use Rattle.nmvs_messages.specs.Fields.{fields_in, line_fault}
use Rattle.nmvs_protocol.specs.Lines.{asked_fault}
use Rattle.nmvs_messages.proofs.PlainLemmas.{not_long}
use Rattle.nmvs_protocol.proofs.SpellingLemmas.{reads_asked, asked_fault-take}
use Rattle.nmvs_protocol.proofs.lines.read_tagged.Goals as goal

pub returns-in_err-fill_fields-clause-fault : goal.returns-in_err-fill_fields-clause-fault
returns-in_err-fill_fields-clause-fault c =
    let short = not_long c.args.count c.if-count-gt-LONGEST_LINE.false in
    let told = (λ i. cond (short i) (Some fault.Long) (line_fault fault.Long (sym c.byte_fault-fault.ensures i) fault.Fields asked_fault c.args.behind.now)) ∙ c.in_err-fill_fields.ensures.fault asked_fault in
    search (rules, told)

pub returns-clause-text : goal.returns-clause-text
returns-clause-text c =
    let kept = ap (map (λ f. f.now)) c.deref.ensures.0 ∙ c.in_ok-fill_fields.ensures.fields in
    reads_asked c.args.behind.now _ c.read_asked.result kept c.read_asked.ensures.fields c.read_asked.ensures.valid

pub returns-clause-fault : goal.returns-clause-fault
returns-clause-fault c =
    let kept = ap (map (λ f. f.now)) c.deref.ensures.0 ∙ c.in_ok-fill_fields.ensures.fields in
    let short = not_long c.args.count c.if-count-gt-LONGEST_LINE.false in
    c.read_asked.ensures.fault ∙ ap asked_fault kept ∙ asked_fault-take (fields_in c.args.behind.now) ∙ sym (c.in_ok-fill_fields.ensures.fault asked_fault)
    ∙ sym (λ i. cond (short i) (Some fault.Long) (line_fault fault.Long (sym c.byte_fault-fault.ensures i) fault.Fields asked_fault c.args.behind.now))
