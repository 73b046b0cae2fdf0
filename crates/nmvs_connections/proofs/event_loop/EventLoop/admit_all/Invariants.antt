use Rattle.nmvs_connections.specs.Memory.{IsCounted}
use Rattle.nmvs_connections.specs.Turns.{AllBehind}
use Rattle.nmvs_connections.proofs.event_loop.EventLoop.admit_all.Given as goal

abbrev pub invariant-loop : goal.invariant-loop
invariant-loop g l =
    (AllBehind l.pool.proxy l.initial.self.connections → AllBehind l.pool.proxy l.self.connections) × (IsCounted l.initial.self → IsCounted l.self)
