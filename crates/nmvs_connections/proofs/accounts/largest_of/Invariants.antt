use Rattle.nmvs_connections.proofs.AccountSteps.{LargestOfSoFar}
use Rattle.nmvs_connections.proofs.accounts.largest_of.Given as goal

abbrev pub invariant-loop-key : goal.invariant-loop-key
invariant-loop-key g l =
    (goal.iterator-loop-key g).can_next l.key-iterator ×
    (goal.iterator-loop-key g).is_finite l.key-iterator ×
    LargestOfSoFar l.connections l.name l.unfinished l.key-iterator l.most l.largest
