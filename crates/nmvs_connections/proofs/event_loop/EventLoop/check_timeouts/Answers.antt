use Rattle.nmvs_connections.proofs.TurnSteps.{stays_then}
use Rattle.nmvs_connections.proofs.event_loop.EventLoop.check_timeouts.Goals as goal

pub loop-key-init : goal.loop-key-init
loop-key-init g c = c.log_evicted.ensures

pub loop-key-preserved : goal.loop-key-preserved
loop-key-preserved g c = stays_then c.args.self.now c.loop-key.self c.check_timeout.new.self c.loop-key.invariant c.check_timeout.ensures
