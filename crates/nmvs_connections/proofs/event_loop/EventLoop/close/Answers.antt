use Rattle.std.proofs.Common.{refl}
use Rattle.nmvs_connections.proofs.MemorySteps.{counted_closed}
use Rattle.nmvs_connections.proofs.TurnSteps.{each_removed}
use Rattle.nmvs_connections.proofs.event_loop.EventLoop.close.Goals as goal

pub returns-in-Some-clause-closes : goal.returns-in-Some-clause-closes
returns-in-Some-clause-closes g c =
    let connections = c.args.self.now.connections in
    let removed = c.try_remove.new.self in
    let e = c.in-Some.ensures in
    (refl, each_removed connections removed c.args.key e.updates, counted_closed connections removed.slots c.args.key c.in-Some.connection c.args.self.now.memory c.saturating_sub-self.result e.value e.slots c.saturating_sub-self.ensures)
