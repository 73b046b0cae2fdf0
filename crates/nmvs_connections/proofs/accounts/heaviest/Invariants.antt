use Rattle.nmvs_connections.proofs.AccountSteps.{CountedSoFar}
use Rattle.nmvs_connections.proofs.accounts.heaviest.Given as goal

abbrev pub invariant-loop-key : goal.invariant-loop-key
invariant-loop-key g l =
    (goal.iterator-loop-key g).can_next l._key-iterator ×
    (goal.iterator-loop-key g).is_finite l._key-iterator ×
    CountedSoFar l.connections l.counts l._key-iterator l.most l.heaviest
