use Rattle.std.proofs.Common.{refl}
use Rattle.nmvs_connections.proofs.MemorySteps.{counted_set}
use Rattle.nmvs_connections.proofs.TurnSteps.{as_before, behind_set}
use Rattle.nmvs_connections.proofs.event_loop.EventLoop.queue.Goals as goal

pub returns-then-not-connection : goal.returns-then-not-connection
returns-then-not-connection g c =
    let connections = c.args.self.now.connections in
    let connection = c.in-Some.connection.now in
    let was = c.in-Some.ensures.value in
    (behind_set connections c.args.key connection _ was (as_before connection.session connection.session refl), counted_set connections c.args.key connection _ c.args.self.now.memory was refl)

pub returns-else-not-connection : goal.returns-else-not-connection
returns-else-not-connection g c =
    let connections = c.args.self.now.connections in
    let connection = c.in-Some.connection.now in
    let was = c.in-Some.ensures.value in
    (behind_set connections c.args.key connection connection was (as_before connection.session connection.session refl), counted_set connections c.args.key connection connection c.args.self.now.memory was refl)
