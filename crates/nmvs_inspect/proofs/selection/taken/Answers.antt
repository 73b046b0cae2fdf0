use Rattle.std.proofs.Common.{◌≡◌, ◌∙◌, ◌+◌, ◌∷◌, ◌++◌, [], ap, Bool, true, false, take, cond, Some, sym, append-nil}
use Rattle.std.specs.Prelude.{filter, slice_get}
use Rattle.nmvs_inspect.specs.Filter.{takes}
use Rattle.nmvs_inspect.proofs.ListLemmas.{filter-next}
use Rattle.nmvs_inspect.proofs.selection.taken.Goals as goal
use Rattle.nmvs_inspect.proofs.selection.taken.Goals.{then-takes+in_ok-push, else-takes}

pub loop-place-preserved : goal.loop-place-preserved
loop-place-preserved g c =
    let t = c.args.shard.now in
    let i = c.loop-place.place in
    let e = c.new-placed.result in
    let p = takes c.args.filter.now t in
    let stands : slice_get t i ≡ Some e = c.new-placed.ensures in
    let told : c.takes.result ≡ p e = c.takes.ensures t c.tables-tables.ensures.agree ∙ ap p c.entry.ensures in
    let next : (b : Bool) → p e ≡ b → filter p (take (i + 1) t) ≡ c.loop-place.found.items ++ cond b (e ∷ []) [] = λ b is.
    filter-next p t i e stands ∙ (λ j. sym c.loop-place.invariant j ++ cond (is j) (e ∷ []) []) in
    elim c.if-takes.branch [
      | then-takes+in_ok-push w ↦ rw w.found-is (w.in_ok-push.ensures.items ∙ sym (next true (sym told ∙ w.if-takes.true)))
      | else-takes w ↦ rw w.found-is (sym (next false (sym told ∙ w.if-takes.false) ∙ append-nil c.loop-place.found.items))
    ]
