use Rattle.std.proofs.Common.{◌≡◌, ◌==◌, ◌∙◌, not, List, ℕ, Option, None, length, ap, subst}
use Rattle.nmvs_messages.specs.declared.end.End.{End}
use Rattle.nmvs_stream.specs.InputLines.{unfinished_line}
use Rattle.nmvs_connections.specs.Replies.{GoesOn}
use Rattle.nmvs_connections.proofs.RepliesSteps.{none_kept}
use Rattle.nmvs_connections.proofs.buffered_session.BufferedSession.has_pending_line.Goals as goal

pub returns : goal.returns
returns g c open_still =
    let is = c.self.inside in
    let none : is.end ≡ None = ap (λ t. t.ended) c.self.view_is ∙ open_still in
    let ready : GoesOn None is.session is.fed.numbers = subst (λ (o : Option End). GoesOn o is.session is.fed.numbers) none c.self.invariant.1 in
    c.has_pending_line.ensures ∙ ap (λ (l : List ℕ). not (length l == 0)) ready.0 ∙ ap not (none_kept (unfinished_line is.fed.numbers))
    ∙ ap (λ t. not (length (unfinished_line t.fed) == 0)) c.self.view_is
