use Rattle.std.proofs.Common.{◌≡◌, ◌∙◌, ◌+◌, ◌++◌, ◌∷◌, [], Bool, true, false, cond, take, Some, sym, ap, arith}
use Rattle.std.specs.Option.{is_some}
use Rattle.std.specs.Prelude.{slice_get}
use Rattle.std.proofs.lemmas.List.{take_more}
use Rattle.std.proofs.lemmas.Option.{get_or_from_slice_get, slice_get_within}
use Rattle.nmvs_rules.specs.declared.entry.Entry.{Entry}
use Rattle.nmvs_rules.proofs.PushLemmas.{count_by-push}
use Rattle.nmvs_check.specs.Answers.{tagged_of}
use Rattle.nmvs_check.proofs.answers.tagged_of.Goals as goal
use Rattle.nmvs_check.proofs.answers.tagged_of.Goals.{then-is_some, else-is_some}

pub loop-place-preserved : goal.loop-place-preserved
loop-place-preserved c =
    let t = c.args.shard.now in
    let i = c.loop-place.place in
    let e = c.unwrap.result in
    let p : Entry → Bool = λ e. is_some e.put.tag in
    let inv = c.loop-place.invariant in
    let stands : slice_get t i ≡ Some e = sym c.entry_at.ensures ∙ c.unwrap.ensures in
    let more : take (i + 1) t ≡ take i t ++ e ∷ [] =
    take_more t i e (slice_get_within t i e stands) ∙ ap (λ (x : Entry). take i t ++ x ∷ []) (get_or_from_slice_get t i e e stands) in
    let counted : (b : Bool) → p e ≡ b → tagged_of (take (i + 1) t) ≡ c.loop-place.count + cond b 1 0 = λ b is.
    ap tagged_of more ∙ count_by-push p (take i t) e ∙ (λ j. sym inv.0 j + cond (is j) 1 0) in
    elim c.if-is_some.branch [
      | then-is_some w ↦
          let one = counted true (sym c.is_some.ensures ∙ w.if-is_some.true) in
          (w.count-is ∙ sym one, omega (arith, inv.1, w.count-is))
      | else-is_some w ↦
          let same : c.loop-place.count + 0 ≡ c.loop-place.count = omega arith in
          let none = counted false (sym c.is_some.ensures ∙ w.if-is_some.false) in
          (w.count-is ∙ sym (none ∙ same), omega (arith, inv.1, w.count-is))
    ]
