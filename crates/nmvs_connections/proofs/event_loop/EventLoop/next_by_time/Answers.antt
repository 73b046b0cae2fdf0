use Rattle.nmvs_connections.proofs.MemorySteps.{counted_set}
use Rattle.nmvs_connections.proofs.TurnSteps.{behind_set}
use Rattle.nmvs_connections.proofs.event_loop.EventLoop.next_by_time.Goals as goal

pub returns : goal.returns
returns g c =
    let connections = c.args.self.now.connections in
    let was = c.in-Some.ensures.value in
    let connection = c.in-Some.connection.now in
    let next = c.check_timeouts-next in (
      behind_set connections c.args.key connection next.new.self was (λ is. (c.note_bytes.ensures, next.ensures.rests.0)),
      counted_set connections c.args.key connection next.new.self c.args.self.now.memory was next.ensures.memory,
    )
