use Rattle.std.proofs.Common.{◌≡◌, ◌∙◌, None, length, sym, subst}
use Rattle.std.proofs.lemmas.Bool.{eqb-true}
use Rattle.std.specs.Prelude.{IfNone}
use Rattle.nmvs_protocol.specs.Tags.{tag_of}
use Rattle.nmvs_protocol.proofs.TagLemmas.{cut_first, cut_none, cut_behind, empty_untagged, unmarked}
use Rattle.nmvs_protocol.proofs.tags.cut_tag.Goals as goal
use Rattle.nmvs_protocol.proofs.tags.cut_tag.Goals.{then-is_empty-via-then-is_empty, then-is_empty-via-else-is_empty+then-line-ne35}

pub returns-then-is_empty-clause-none : goal.returns-then-is_empty-clause-none
returns-then-is_empty-clause-none c =
    elim c.then-is_empty.branch [
      | then-is_empty-via-then-is_empty w ↦ empty_untagged c.args.line.now (eqb-true (length c.args.line.now) 0 (sym c.is_empty.ensures ∙ w.if-is_empty.true))
      | then-is_empty-via-else-is_empty+then-line-ne35 w ↦ unmarked c.args.line.now w.if-line-ne35.true
    ]

pub returns-in_err-field-clause-none : goal.returns-in_err-field-clause-none
returns-in_err-field-clause-none c =
    subst (λ r. IfNone r (tag_of c.args.line.now ≡ None)) (sym c.from_residual.ensures) (cut_none c.args.line.now c.min.result c.min.ensures c.in_err-field.ensures.none)

pub returns-in_err-tag-clause-none : goal.returns-in_err-tag-clause-none
returns-in_err-tag-clause-none c =
    let tag = cut_first c.args.line.now c.in_ok-field.field.now c.in_ok-field._behind.now c.min.result c.min.ensures c.in_ok-field.ensures.cut in
    subst (λ r. IfNone r (tag_of c.args.line.now ≡ None)) (sym c.from_residual-in_err-tag.ensures) (tag ∙ sym c.in_err-tag.ensures)

pub returns : goal.returns
returns c =
    let field = c.in_ok-field.field.now in
    let tag = cut_first c.args.line.now field c.in_ok-field._behind.now c.min.result c.min.ensures c.in_ok-field.ensures.cut in
    let named = sym c.tag_named.ensures ∙ c.in_ok-tag.was in
    record { tag = tag ∙ named; behind = cut_behind c.args.line.now field c.in_ok-tag.tag named; none = tt }
