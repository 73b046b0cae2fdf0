use Rattle.std.proofs.Common.{◌≡◌, ◌∙◌, ◌==◌, ℕ, List, Option, true, length, ap, subst, sym, rules}
use Rattle.nmvs_messages.specs.declared.end.End.{End}
use Rattle.nmvs_connections.specs.LineStreams.{before_of, carried}
use Rattle.nmvs_connections.specs.Replies.{Replies}
use Rattle.nmvs_connections.proofs.LineSteps.{answers_over}
use Rattle.nmvs_connections.proofs.PeerSteps.{empty}
use Rattle.nmvs_connections.proofs.peer_session.PeerSession.respond.Goals as goal

pub respond-requires : goal.respond-requires
respond-requires g c =
    let is = c.self.inside in
    let answered : c.is_answered.result ≡ true = search rules in
    let replies = subst (λ (e : Option End). Replies is.session.fed is.session.sent 0 e) (sym c.end.ensures) (c.is_answered.ensures answered) in
    answers_over is.peer (carried is.stream) (before_of is.stream.http) c.end.result c.is_empty-all.result c.in-Some.ended c.self.invariant replies c.in-Some.ensures
    (λ all. empty is.unread.items (ap (λ (l : List ℕ). length l == 0) (sym c.as_slice.ensures.value) ∙ sym c.is_empty-all.ensures ∙ all))
