use Rattle.std.proofs.Common.{◌≡◌, ◌∙◌, ◌<◌, ◌+◌, ◌∷◌, ◌++◌, [], ℕ, suc, List, length, map, take, drop, set, get_or, option_copied, sym, ap, arith, add-one}
use Rattle.std.proofs.Math.Seq.{drop-cons}
use Rattle.std.proofs.lemmas.List.{map-append, map_more, take_more_set, drop-set-lt}
use Rattle.nmvs_messages.specs.declared.answer.Answer.{Answer}
use Rattle.nmvs_messages.specs.declared.withheld.Withheld.{Withheld}
use Rattle.nmvs_messages.specs.Withheld.{answer_of, told_where}
use Rattle.nmvs_messages.proofs.withheld.turn_all_unkept.Goals as goal

-- one more answer is turned as its entries require
turned_more : (tell : Withheld → Answer) (all now : List Withheld) (i : ℕ) (w new : Withheld) → i < length now → length now ≡ length all
    → map answer_of (take i now) ≡ map tell (take i all) → drop i now ≡ drop i all → new.answer ≡ tell (get_or now i w)
    → (map answer_of (take (i + 1) (set now i new)) ≡ map tell (take (i + 1) all)) × (drop (i + 1) (set now i new) ≡ drop (i + 1) all)
turned_more tell all now i w new here long front behind tells =
    let there : i < length all = omega arith in
    let cut : get_or now i w ∷ drop (suc i) now ≡ get_or all i w ∷ drop (suc i) all = sym (drop-cons now i w here) ∙ behind ∙ drop-cons all i w there in
    let same : get_or now i w ≡ get_or all i w = cc in
    let rest : drop (suc i) now ≡ drop (suc i) all = cc in
    let told : new.answer ≡ tell (get_or all i w) = tells ∙ ap tell same in (
      ap (map answer_of) (take_more_set now i new here) ∙ map-append answer_of (take i now) (new ∷ [])
          ∙ (λ k. front k ++ told k ∷ []) ∙ sym (map_more tell all i w there),
      drop-set-lt (i + 1) now i new (omega arith) ∙ rw add-one rest,
    )

pub loop-withheld-preserved : goal.loop-withheld-preserved
loop-withheld-preserved c =
    let loop = c.loop-withheld in
    let here : loop.withheld-index < length loop.list = omega (arith, c.loop-withheld-test.true, loop.auto.list) in
    turned_more (told_where (option_copied c.args.kept)) c.args.list.now loop.list loop.withheld-index c.withheld-item.result c.turn_unkept.new.self
    here loop.auto.list loop.invariant.0 loop.invariant.1 c.turn_unkept.ensures
