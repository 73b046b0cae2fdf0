use Rattle.nmvs_connections.proofs.TurnSteps.{closes_then}
use Rattle.nmvs_connections.proofs.event_loop.EventLoop.go_on.Goals as goal

pub returns-clause-closes : goal.returns-clause-closes
returns-clause-closes g c =
    let counted = c.count_memory.new.self in
    let queued = c.queue_or_close.new.self in
    closes_then c.args.self.now queued c.evict.new.self (closes_then c.args.self.now counted queued c.count_memory.ensures.closes c.queue_or_close.ensures.closes) c.evict.ensures.closes
