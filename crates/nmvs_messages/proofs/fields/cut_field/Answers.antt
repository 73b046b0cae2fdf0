use Rattle.std.proofs.Common.{◌∙◌, ◌+◌, ◌-◌, ◌∷◌, [], length, drop, ap, sym, take}
use Rattle.nmvs_messages.specs.Fields.{fields_in}
use Rattle.nmvs_messages.proofs.FieldLemmas.{field_printable, one_field, whole_field, cut_at}
use Rattle.nmvs_messages.proofs.fields.cut_field.Goals as goal

pub as_text-requires : goal.as_text-requires
as_text-requires c = field_printable (take c.loop-i.i c.args.text.now) c.loop-i.invariant

pub returns-then-not-is_ascii_graphic-clause-fields : goal.returns-then-not-is_ascii_graphic-clause-fields
returns-then-not-is_ascii_graphic-clause-fields c =
    (cut_at c.args.text.now c.loop-i.i c.loop-i-test.true c.if-b-ne32.false c.loop-i.invariant).fields
    ∙ ap (λ t. t ∷ fields_in (take (length c.args.text.now - (c.loop-i.i + 1)) (drop (c.loop-i.i + 1) c.args.text.now))) (sym c.as_text.ensures)

pub returns-then-not-is_ascii_graphic-clause-printable : goal.returns-then-not-is_ascii_graphic-clause-printable
returns-then-not-is_ascii_graphic-clause-printable c = (cut_at c.args.text.now c.loop-i.i c.loop-i-test.true c.if-b-ne32.false c.loop-i.invariant).printable

pub as_text-requires-2 : goal.as_text-requires-2
as_text-requires-2 c = field_printable c.args.text.now (whole_field c.args.text.now c.loop-i.i c.loop-i-test.false c.loop-i.invariant)

pub returns-clause-fields : goal.returns-clause-fields
returns-clause-fields c =
    one_field c.args.text.now (whole_field c.args.text.now c.loop-i.i c.loop-i-test.false c.loop-i.invariant)
    ∙ ap (λ t. t ∷ []) (sym c.as_text-2.ensures)

pub returns-clause-printable : goal.returns-clause-printable
returns-clause-printable c = field_printable c.args.text.now (whole_field c.args.text.now c.loop-i.i c.loop-i-test.false c.loop-i.invariant)
