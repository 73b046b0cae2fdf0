use Rattle.nmvs_connections.proofs.TurnSteps.{stays_then}
use Rattle.nmvs_connections.proofs.event_loop.EventLoop.check_shutdown.Goals as goal

pub loop-key-preserved : goal.loop-key-preserved
loop-key-preserved g c = stays_then c.args.self.now c.loop-key.self c.end.new.self c.loop-key.invariant c.end.ensures
