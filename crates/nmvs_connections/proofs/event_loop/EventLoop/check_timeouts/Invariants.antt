use Rattle.nmvs_connections.specs.Turns.{Stays}
use Rattle.nmvs_connections.proofs.event_loop.EventLoop.check_timeouts.Given as goal

abbrev pub invariant-loop-key : goal.invariant-loop-key
invariant-loop-key g l = Stays l.fn.self l.self
