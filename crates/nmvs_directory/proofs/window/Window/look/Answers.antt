use Rattle.std.proofs.Common.{◌≡◌, ◌∙◌, [], inl, sym}
use Rattle.std.proofs.lemmas.List.{append-nil}
use Rattle.nmvs_rules.proofs.TextLemmas.{same_text-equal}
use Rattle.nmvs_directory.specs.Known.{known}
use Rattle.nmvs_directory.proofs.window.Window.look.Goals as goal

pub returns-then-eq : goal.returns-then-eq
returns-then-eq g c =
    let last = c.in-Some.last in
    let seen = c.args.self.now in
    let user = c.args.user.now in
    let same : last.user ≡ user = same_text-equal last.user user (sym c.eq.ensures ∙ c.if-eq.true) in
    let look : last.look ≡ known seen user = c.self.invariant last c.in-Some.is ∙ (λ i. known (c.self.view_is i) (same i)) in
    inl (([], append-nil seen), look)
