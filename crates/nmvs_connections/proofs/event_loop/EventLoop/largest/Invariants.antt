use Rattle.nmvs_connections.proofs.MemorySteps.{LargestSoFar}
use Rattle.nmvs_connections.proofs.event_loop.EventLoop.largest.Given as goal

abbrev pub invariant-loop-key : goal.invariant-loop-key
invariant-loop-key g l =
    (goal.iterator-loop-key g).can_next l.key-iterator ×
    (goal.iterator-loop-key g).is_finite l.key-iterator ×
    LargestSoFar l.self.connections l.key-iterator l.most l.largest
