use Rattle.std.proofs.Common.{◌≡◌, ◌∙◌, ◌∷◌, [], None, Some, take, sym, ap}
use Rattle.std.specs.Prelude.{slice_get}
use Rattle.std.proofs.lemmas.List.Sums.{fold-append}
use Rattle.nmvs_rules.specs.declared.entry.Entry.{Entry}
use Rattle.nmvs_inspect.specs.Period.{period_of, with_moment}
use Rattle.nmvs_inspect.proofs.ListLemmas.{take-next}
use Rattle.nmvs_inspect.proofs.period.period_of.Goals as goal

pub loop-place-preserved : goal.loop-place-preserved
loop-place-preserved g c =
    let t = c.args.shard.now in
    let i = c.loop-place.place in
    let e = c.unwrap-entry.result in
    let stands : slice_get t i ≡ Some e = sym c.entry_at.ensures ∙ c.unwrap-entry.ensures in
    c.with_moment.ensures ∙ ap (λ p. with_moment p e.put.moment) c.loop-place.invariant
    ∙ sym (ap period_of (take-next t i e stands) ∙ fold-append (λ p (d : Entry). with_moment p d.put.moment) None (take i t) (e ∷ []))
