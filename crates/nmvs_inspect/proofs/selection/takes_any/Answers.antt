use Rattle.std.proofs.Common.{◌≡◌, ◌∙◌, true, false, take, Some, sym, ap, arith}
use Rattle.std.specs.List.{list_any}
use Rattle.std.specs.Prelude.{slice_get}
use Rattle.std.proofs.lemmas.List.{take_all}
use Rattle.std.proofs.lemmas.List.Folds.{list_any_at}
use Rattle.std.proofs.lemmas.Option.{get_or_from_slice_get, slice_get_within}
use Rattle.nmvs_inspect.specs.Filter.{takes}
use Rattle.nmvs_inspect.proofs.ListLemmas.{none-next}
use Rattle.nmvs_inspect.proofs.selection.takes_any.Goals as goal

pub returns-then-takes : goal.returns-then-takes
returns-then-takes g c =
    let t = c.args.shard.now in
    let i = c.loop-place.place in
    let e = c.unwrap.result in
    let p = takes c.args.filter.now t in
    let stands : slice_get t i ≡ Some e = sym c.entry_at.ensures ∙ c.unwrap.ensures in
    let passes : p e ≡ true = sym (c.takes.ensures t c.tables-tables.ensures.agree) ∙ c.if-takes.true in
    sym (list_any_at p t i e (slice_get_within t i e stands) (ap p (get_or_from_slice_get t i e e stands) ∙ passes))

pub loop-place-preserved : goal.loop-place-preserved
loop-place-preserved g c =
    let t = c.args.shard.now in
    let i = c.loop-place.place in
    let e = c.unwrap.result in
    let p = takes c.args.filter.now t in
    let stands : slice_get t i ≡ Some e = sym c.entry_at.ensures ∙ c.unwrap.ensures in
    let fails : p e ≡ false = sym (c.takes.ensures t c.tables-tables.ensures.agree) ∙ c.if-takes.false in
    none-next p t i e stands fails c.loop-place.invariant

pub returns : goal.returns
returns g c =
    let t = c.args.shard.now in
    let all : take c.loop-place.place t ≡ t = take_all c.loop-place.place t (omega (arith, c.loop-place-test.false, c.len-place-end.ensures.len)) in
    sym (ap (list_any (takes c.args.filter.now t)) (sym all) ∙ c.loop-place.invariant)
