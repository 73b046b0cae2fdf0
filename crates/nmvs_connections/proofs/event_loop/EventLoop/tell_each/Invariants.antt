use Rattle.std.proofs.Common.{vec_len}
use Rattle.nmvs_connections.specs.Memory.{IsCounted}
use Rattle.nmvs_connections.specs.Turns.{EachGoes}
use Rattle.nmvs_connections.proofs.TurnSteps.{ToldSoFar}
use Rattle.nmvs_connections.proofs.event_loop.EventLoop.tell_each.Given as goal

-- the connections that have still to send their answers are on the list
abbrev pub invariant-loop-key : goal.invariant-loop-key
invariant-loop-key g l =
    EachGoes (ToldSoFar l.released l.initial.self.awaiting.items l.self.awaiting.items) l.initial.self.connections l.self.connections × (IsCounted l.initial.self → IsCounted l.self)

abbrev pub decreases-loop-key : goal.decreases-loop-key
decreases-loop-key g l = vec_len l.self.awaiting
