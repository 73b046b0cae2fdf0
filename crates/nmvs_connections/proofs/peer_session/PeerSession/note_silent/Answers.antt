use Rattle.std.proofs.Common.{◌∙◌, ◌++◌, ℕ, List, ap, sym, subst}
use Rattle.std.proofs.lemmas.List.{append_assoc}
use Rattle.nmvs_connections.specs.Replies.{Replies}
use Rattle.nmvs_connections.specs.LineStreams.{before_of, carried}
use Rattle.nmvs_connections.proofs.LineSteps.{told_nothing}
use Rattle.nmvs_connections.proofs.peer_session.PeerSession.note_silent.Goals as goal

pub returns : goal.returns
returns g c =
    let is = c.self.inside in
    let view = c.self.view_is in
    sym (ap (λ p. p.stream.sent) view)
    ∙ told_nothing is.peer is.stage is.session.fed is.session.sent (is.session.unsent ++ is.session.listed) is.unread.items is.session.waiting is.session.ended (carried is.stream) (before_of is.stream.http)
    (ap (λ p. p.peer) view ∙ c.requires.awaited) (ap (λ p. p.stage) view ∙ c.requires.serving) (subst (λ (t : List ℕ). Replies is.session.fed t is.session.waiting is.session.ended) (append_assoc is.session.sent is.session.unsent is.session.listed) c.unsent-unsent.ensures.replies) c.self.invariant
