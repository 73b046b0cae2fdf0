use Rattle.nmvs_connections.proofs.TurnSteps.{stays_closed, stays_then}
use Rattle.nmvs_connections.proofs.event_loop.EventLoop.check_timeout.Goals as goal

pub returns-in-Again : goal.returns-in-Again
returns-in-Again g c = stays_then c.args.self.now c.next_by_time.new.self c.queue.new.self c.next_by_time.ensures c.queue.ensures

pub returns-in-Close : goal.returns-in-Close
returns-in-Close g c = stays_then c.args.self.now c.next_by_time.new.self c.remove.new.self c.next_by_time.ensures (stays_closed c.next_by_time.new.self c.remove.new.self c.remove.ensures.closes)
