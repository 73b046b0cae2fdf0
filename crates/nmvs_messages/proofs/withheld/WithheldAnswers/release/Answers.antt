use Rattle.std.proofs.Common.{◌≡◌, ◌∙◌, List, map, inl, refl, sym, subst}
use Rattle.nmvs_messages.specs.declared.withheld.Withheld.{Withheld}
use Rattle.nmvs_messages.specs.Withheld.{AreReleased, answer_of}
use Rattle.nmvs_messages.proofs.Releases.{released_by}
use Rattle.nmvs_messages.proofs.withheld.WithheldAnswers.release.Goals as goal

pub returns : goal.returns
returns c =
    let same : c.as_slice.result.now ≡ c.args.self.now = c.as_slice.ensures.value ∙ c.self.view_is in
    subst (λ (ws : List Withheld). AreReleased (λ w a. a ≡ w.answer) c.args.self.now (map answer_of ws)) (sym same)
    (released_by answer_of (λ w. inl refl) c.args.self.now)
