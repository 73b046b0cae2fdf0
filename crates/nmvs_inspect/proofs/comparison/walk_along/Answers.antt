use Rattle.std.proofs.Common.{rules, ◌≡◌, ◌∙◌, ℕ, ◌+◌, ◌-◌, ◌<◌, ap, cond, Some, arith, Option, unwrap_or, length, get_or, None, sym}
use Rattle.std.specs.Prelude.{slice_get}
use Rattle.std.proofs.lemmas.Option.{get_or_from_slice_get, slice_get_within}
use Rattle.nmvs_rules.specs.Questions.{code_of}
use Rattle.nmvs_identifier.specs.ProductCode.{ProductCode}
use Rattle.nmvs_inspect.specs.Comparison.{head, same_code, seek}
use Rattle.nmvs_inspect.proofs.ComparisonLemmas.{seek-end, head-back, nexts-back}
use Rattle.nmvs_inspect.proofs.comparison.walk_along.Goals as goal

pub loop-left-init : goal.loop-left-init
loop-left-init g c =
    let t = c.args.shard.now in
    record {
      within = omega arith;
      nexts = record {
        whole = search rules;
        right = λ i e above stands. let l = slice_get_within t i e stands in absurd (omega (arith, l, above, c.len-many.ensures.len));
      };
      heads = λ q. let none : head c.with_hasher-heads.result q ≡ None = search rules in ap (λ (o : Option ℕ). unwrap_or o (length t)) none ∙ sym (seek-end q t (length t) (omega arith)) ∙ ap (seek q t) (sym c.len-many.ensures.len);
    }

pub loop-left-preserved : goal.loop-left-preserved
loop-left-preserved g c =
    let t = c.args.shard.now in
    let from = c.loop-left.left in
    let n = from - 1 in
    let d = c.unwrap.result in
    let stands : slice_get t n ≡ Some d = sym c.entry_at.ensures ∙ c.unwrap.ensures in
    let is : d ≡ get_or t n d = sym (get_or_from_slice_get t n d d stands) in
    let on : from ≡ n + 1 = omega (arith, c.loop-left-test.true) in
    let l : n < length t = omega (arith, c.loop-left-test.true, c.loop-left.invariant.within) in
    let named : c.code-code.result ≡ code_of d.put.question = c.code-code.ensures in
    record {
      within = omega arith;
      nexts = nexts-back t n from d on l is c.loop-left.nexts.items c.unwrap_or.result c.loop-left.invariant.nexts (
          c.unwrap_or.ensures ∙ (λ j. unwrap_or ((c.in_ok-put_head.ensures.before ∙ ap (head c.loop-left.heads) named) j) (c.len-many.ensures.len j))
          ∙ c.loop-left.invariant.heads (code_of d.put.question)
          );
      heads = head-back t n from d on l is (head c.loop-left.heads) (head c.put_head.new.heads) c.loop-left.invariant.heads (
          λ q. c.in_ok-put_head.ensures.heads q ∙ ap (λ (k : ProductCode). cond (same_code k q) (Some n) (head c.loop-left.heads q)) named
          );
    }
