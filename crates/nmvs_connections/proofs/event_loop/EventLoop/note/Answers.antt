use Rattle.nmvs_connections.proofs.MemorySteps.{counted_set}
use Rattle.nmvs_connections.proofs.TurnSteps.{as_before, behind_set}
use Rattle.nmvs_connections.proofs.event_loop.EventLoop.note.Goals as goal

pub returns : goal.returns
returns g c =
    let connections = c.args.self.now.connections in
    let key = c.token-token.result.0 in
    let connection = c.in-Some.connection.now in
    let was = c.in-Some.ensures.value in
    let noted = c.note_closed.new.self in
    let same = c.note_closed.ensures in (
      λ proxy behind. c.queue.ensures.0 proxy (behind_set connections key connection noted was (as_before connection.session noted.session same.0) proxy behind),
      λ counted. c.queue.ensures.1 (counted_set connections key connection noted c.args.self.now.memory was same.1 counted),
    )
