use Rattle.std.proofs.Common.{◌∙◌, ap}
use Rattle.nmvs_connections.specs.LineStreams.{before_of, carried}
use Rattle.nmvs_connections.proofs.LineSteps.{stands_notice}
use Rattle.nmvs_connections.proofs.peer_session.PeerSession.shutdown_idle.Goals as goal

pub invariant_of-self : goal.invariant_of-self
invariant_of-self g c =
    let is = c.self.inside in
    let new = c.write-moved.new.self in
    stands_notice (carried is.stream) (carried new) (before_of is.stream.http) (before_of new.http) c.write-moved.result (ap (λ p. p.stage) c.self.view_is ∙ c.requires) c.write-moved.ensures.writes c.write-moved.ensures.before c.self.invariant
