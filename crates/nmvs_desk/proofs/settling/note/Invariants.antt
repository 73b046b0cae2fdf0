use Rattle.nmvs_desk.specs.Closing.{Notes}
use Rattle.nmvs_desk.proofs.settling.note.Given as goal

abbrev pub invariant-loop-receipt : goal.invariant-loop-receipt
invariant-loop-receipt g l = Notes l.clerk l.receipts l.receipt l.initial.owners.items l.owners.items
