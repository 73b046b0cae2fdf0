use Rattle.std.proofs.Common.{◌≡◌, ◌∙◌, List, length, map, drop, option_copied, ap, sym, subst}
use Rattle.std.proofs.lemmas.List.{take_at}
use Rattle.nmvs_messages.specs.declared.answer.Answer.{Answer}
use Rattle.nmvs_messages.specs.Withheld.{AreReleased, answer_of, told_where}
use Rattle.nmvs_messages.proofs.Releases.{released_by, told_stays}
use Rattle.nmvs_messages.proofs.withheld.WithheldAnswers.release_kept.Goals as goal

pub returns : goal.returns
returns c =
    let tell = told_where (option_copied c.args.kept) in
    let items : c.as_mut_slice.result.now ≡ c.args.self.now = c.as_mut_slice.ensures.value ∙ c.self.view_is in
    let turned = c.turn_all_unkept.new.list in
    let many : length turned ≡ length c.self.inside.list.items = c.turn_all_unkept.auto.list ∙ ap length c.as_mut_slice.ensures.value in
    let whole : c.as_slice.result.now ≡ turned = c.as_slice.ensures.value ∙ take_at turned (drop (length turned) c.self.inside.list.items) _ many in
    let same : map answer_of c.as_slice.result.now ≡ map tell c.args.self.now = ap (map answer_of) whole ∙ c.turn_all_unkept.ensures ∙ ap (map tell) items in
    subst (λ (said : List Answer). AreReleased (λ w a. a ≡ tell w) c.args.self.now said) (sym same)
    (released_by tell (told_stays (option_copied c.args.kept)) c.args.self.now)
