use Rattle.nmvs_connections.specs.Memory.{IsCounted}
use Rattle.nmvs_connections.proofs.TurnSteps.{OpenTurn}
use Rattle.nmvs_connections.proofs.event_loop.EventLoop.take_turns.Given as goal

-- the turns so far are a part of a turn
abbrev pub invariant-loop-index : goal.invariant-loop-index
invariant-loop-index g l =
    OpenTurn l.pool.proxy g.D.Desk.takes g.D.Desk.releases g.D.Desk.moves l.initial.desk l.desk l.withheld l.self.awaiting.items l.initial.self.connections l.self.connections × (IsCounted l.initial.self → IsCounted l.self)
