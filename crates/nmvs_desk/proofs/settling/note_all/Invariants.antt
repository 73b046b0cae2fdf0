use Rattle.nmvs_desk.specs.Closing.{AreNoted}
use Rattle.nmvs_desk.proofs.settling.note_all.Given as goal

abbrev pub invariant-loop-clerk : goal.invariant-loop-clerk
invariant-loop-clerk g l = AreNoted l.receipts.items l.clerk l.initial.owners.items l.owners.items
