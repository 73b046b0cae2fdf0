use Rattle.std.proofs.Common.{◌∙◌, sym, rules}
use Rattle.nmvs_messages.specs.Fields.{fields_behind}
use Rattle.nmvs_messages.proofs.FieldLemmas.{kept_full}
use Rattle.nmvs_messages.proofs.fields.fill_fields.Goals as goal

pub loop-rest-preserved : goal.loop-rest-preserved
loop-rest-preserved g c =
    let full = sym c.is_full.ensures.value ∙ c.if-not-is_full.false in record {
      kept = kept_full c.loop-rest.fields.items (fields_behind c.in_ok-field.behind) (fields_behind c.loop-rest.rest) full ∙ c.loop-rest.invariant.kept;
      few = c.loop-rest.invariant.few;
      filled = search rules;
      printable = search rules;
    }
