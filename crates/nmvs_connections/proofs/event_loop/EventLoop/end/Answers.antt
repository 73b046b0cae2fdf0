use Rattle.slab.specs.Slab.{with_value}
use Rattle.nmvs_connections.proofs.MemorySteps.{counted_set}
use Rattle.nmvs_connections.proofs.TurnSteps.{as_before, behind_same, behind_set}
use Rattle.nmvs_connections.proofs.event_loop.EventLoop.end.Goals as goal

pub returns-then-is_served : goal.returns-then-is_served
returns-then-is_served g c =
    let connections = c.args.self.now.connections in
    let connection = c.in-Some.connection.now in
    let was = c.in-Some.ensures.value in
    let noted = c.note_stopped.new.self in
    let same = c.note_stopped.ensures in (
      λ proxy behind. c.queue.ensures.0 proxy (behind_set connections c.args.key connection noted was (as_before connection.session noted.session same.0) proxy behind),
      λ counted. c.queue.ensures.1 (counted_set connections c.args.key connection noted c.args.self.now.memory was same.1 counted),
    )

pub returns-else-is_served : goal.returns-else-is_served
returns-else-is_served g c =
    let connections = c.args.self.now.connections in
    let connection = c.in-Some.connection.now in
    let was = c.in-Some.ensures.value in
    let noted = c.note_stopped.new.self in
    let same = c.note_stopped.ensures in
    let closes = c.remove.ensures.closes in (
      λ proxy behind. behind_same (with_value connections c.args.key noted) c.remove.new.self.connections closes.1 proxy (behind_set connections c.args.key connection noted was (as_before connection.session noted.session same.0) proxy behind),
      λ counted. closes.2 (counted_set connections c.args.key connection noted c.args.self.now.memory was same.1 counted),
    )
