use Rattle.std.proofs.Common.{◌≡◌, ◌+◌, ◌∙◌, suc, refl, sym, ap, arith, length}
use Rattle.std.specs.Prelude.{slice_get}
use Rattle.std.proofs.lemmas.Option.{slice_get_read, slice_get_within}
use Rattle.nmvs_desk.proofs.Closings.{taken_none, taken_more, rest_get}
use Rattle.nmvs_desk.proofs.settling.take_tokens.Goals as goal

pub loop-shard-init : goal.loop-shard-init
loop-shard-init g c = (taken_none _ _, (λ j. let from : j ≡ 0 + j = omega arith in ap (slice_get c.args.tokens.items) from), omega arith, refl)

pub absorb-requires : goal.absorb-requires
absorb-requires g c =
    let l = c.loop-shard in
    let u = c.index_mut.result.now in
    let k = c.remove.result in
    let from : l.shard ≡ l.shard + 0 = omega arith in
    let at_u = slice_get_read l.closings.items (length l.closings.items) l.shard u refl (omega (arith, l.closings.ok.0)) c.index_mut.ensures.value in
    let at_k = slice_get_read l.tokens.items (length l.tokens.items) 0 k refl (omega (arith, c.remove.ensures.len, l.tokens.ok.0)) c.remove.ensures.value in
    c.requires.tables l.shard u k (sym (l.invariant.0.rest l.shard (omega arith)) ∙ at_u) (ap (slice_get c.args.tokens.items) from ∙ sym (l.invariant.1 0) ∙ at_k)

pub loop-shard-preserved : goal.loop-shard-preserved
loop-shard-preserved g c =
    let l = c.loop-shard in
    let u = c.index_mut.result.now in
    let k = c.remove.result in
    let from : l.shard ≡ l.shard + 0 = omega arith in
    let at_u = slice_get_read l.closings.items (length l.closings.items) l.shard u refl (omega (arith, l.closings.ok.0)) c.index_mut.ensures.value in
    let at_k = slice_get_read l.tokens.items (length l.tokens.items) 0 k refl (omega (arith, c.remove.ensures.len, l.tokens.ok.0)) c.remove.ensures.value in (
      taken_more l.shard c.args.tokens.items c.args.closings.now.items l.closings.items u c.absorb.new.self k l.invariant.0 at_u (ap (slice_get c.args.tokens.items) from ∙ sym (l.invariant.1 0) ∙ at_k) c.absorb.ensures.back c.absorb.ensures.begins,
      (λ j.
          let later : l.shard + suc j ≡ (l.shard + 1) + j = omega arith in
          ap (λ t. slice_get t j) c.remove.ensures.items ∙ rest_get l.tokens.items j ∙ l.invariant.1 (suc j) ∙ ap (slice_get c.args.tokens.items) later),
      omega (arith, c.remove.ensures.len, l.invariant.2),
      omega (arith, l.invariant.3),
    )

pub returns-clause-taken : goal.returns-clause-taken
returns-clause-taken g c =
    let l = c.loop-shard in
    λ i u k at_u at_k. l.invariant.0.taken i u k
    (omega (arith, slice_get_within c.args.closings.now.items i u at_u, c.args.closings.now.ok.0, l.invariant.3, c.loop-shard-test.false, c.loop-shard.auto.shard-end, c.len-shard-end.ensures)) at_u at_k
