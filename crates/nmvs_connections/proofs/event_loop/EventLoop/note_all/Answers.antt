use Rattle.nmvs_connections.proofs.TurnSteps.{stays_then}
use Rattle.nmvs_connections.proofs.event_loop.EventLoop.note_all.Goals as goal

pub loop-event-preserved : goal.loop-event-preserved
loop-event-preserved g c = stays_then c.args.self.now c.loop-event.self c.note.new.self c.loop-event.invariant c.note.ensures

pub loop-event-preserved-then-note : goal.loop-event-preserved-then-note
loop-event-preserved-then-note g c = stays_then c.args.self.now c.loop-event.self c.note.new.self c.loop-event.invariant c.note.ensures
