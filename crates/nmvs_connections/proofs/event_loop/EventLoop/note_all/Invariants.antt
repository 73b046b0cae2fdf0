use Rattle.nmvs_connections.specs.Turns.{Stays}
use Rattle.nmvs_connections.proofs.event_loop.EventLoop.note_all.Given as goal

abbrev pub invariant-loop-event : goal.invariant-loop-event
invariant-loop-event g l = Stays l.initial.self l.self
