use Rattle.std.proofs.Common.{◌∙◌, ap, refl}
use Rattle.nmvs_connections.specs.LineStreams.{before_of, carried}
use Rattle.nmvs_connections.proofs.ConnectionLemmas.{discards_later}
use Rattle.nmvs_connections.proofs.LineSteps.{stands_discarded}
use Rattle.nmvs_connections.proofs.peer_session.PeerSession.linger.Goals as goal

pub invariant_of-self : goal.invariant_of-self
invariant_of-self g c =
    let is = c.self.inside in
    let new = c.discard.new.self in
    stands_discarded (carried is.stream) (carried new) (before_of is.stream.http) (before_of new.http) c.discard.new.buffer c.discard.result (ap (λ p. p.stage) c.self.view_is ∙ c.requires) c.discard.ensures.reads c.discard.ensures.before c.self.invariant

pub returns-clause-later : goal.returns-clause-later
returns-clause-later g c = rw (← c.self.view_is) (discards_later _ _ _ _ refl refl c.discard.ensures.reads)
