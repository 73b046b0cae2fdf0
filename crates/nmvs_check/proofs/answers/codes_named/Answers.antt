use Rattle.std.proofs.Common.{◌≡◌, ◌∙◌, Some, sym, ap, ap₂}
use Rattle.std.specs.Prelude.{slice_get}
use Rattle.std.proofs.lemmas.Option.{get_or_from_slice_get, slice_get_within}
use Rattle.nmvs_rules.specs.declared.entry.Entry.{Entry}
use Rattle.nmvs_rules.specs.Questions.{code_of}
use Rattle.nmvs_check.specs.Answers.{with_code}
use Rattle.nmvs_check.proofs.AnswerLemmas.{codes_named-next}
use Rattle.nmvs_check.proofs.answers.codes_named.Goals as goal

pub loop-place-preserved : goal.loop-place-preserved
loop-place-preserved c =
    let t = c.args.shard.now in
    let i = c.loop-place.place in
    let e = c.unwrap.result in
    let stands : slice_get t i ≡ Some e = sym c.entry_at.ensures ∙ c.unwrap.ensures in
    c.in-Ok.ensures.keys ∙ ap₂ with_code c.loop-place.invariant (c.code.ensures ∙ ap (λ (d : Entry). code_of d.put.question) (sym (get_or_from_slice_get t i e e stands)))
    ∙ sym (codes_named-next t i e (slice_get_within t i e stands))
