use Rattle.nmvs_elements.proofs.Runs.{value_before, no_value}
use Rattle.nmvs_elements.proofs.front.split_value.Goals as goal

pub returns-then-size-end-clause-none : goal.returns-then-size-end-clause-none
returns-then-size-end-clause-none c =
    no_value c.args.predefined c.args.content.now c.value_end-end.result c.unwrap_or-size.result c.value_end-end.ensures.within c.value_end-end.ensures.ends
    c.unwrap_or-size.ensures c.if-size-end.true

pub returns-clause-some : goal.returns-clause-some
returns-clause-some c =
    value_before c.args.predefined c.args.content.now _ _ c.value_end-end.result c.unwrap_or-size.result c.value_end-end.ensures.within c.value_end-end.ensures.one_piece
    c.value_end-end.ensures.ends c.unwrap_or-size.ensures c.if-size-end.false c.split_at.ensures.front c.split_at.ensures.back
