use Rattle.std.proofs.Common.{◌∙◌, ap, subst, sym}
use Rattle.nmvs_connections.specs.Peers.{PeerState, IsConnection}
use Rattle.nmvs_connections.proofs.MemorySteps.{counted_inserted}
use Rattle.nmvs_connections.proofs.TurnSteps.{behind_inserted}
use Rattle.nmvs_connections.proofs.event_loop.EventLoop.admit.Goals as goal

pub returns-clause-behind : goal.returns-clause-behind
returns-clause-behind g c =
    let e = c.insert.ensures in
    let new = c.in_ok-connection.ensures in
    let registered = c.in_ok-register.ensures.0 in
    behind_inserted c.args.pool.now.proxy c.args.self.now.connections c.insert.new.self c.insert.result c.register.new.self e.updates e.err
    (subst (λ (s : PeerState). IsConnection s) (sym registered) new.0) (ap (λ (s : PeerState). s.proxy) registered ∙ new.1 ∙ c.proxy.ensures)

pub returns-clause-counted : goal.returns-clause-counted
returns-clause-counted g c =
    let e = c.insert.ensures in
    counted_inserted c.args.self.now.connections c.insert.new.self c.insert.result c.register.new.self c.args.self.now.memory e.was_vacant e.updates e.err (c.in_ok-register.ensures.1 ∙ c.in_ok-connection.ensures.2)
