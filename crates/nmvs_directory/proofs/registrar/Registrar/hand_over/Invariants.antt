use Rattle.std.proofs.Common.{◌≡◌, ◌-◌, length}
use Rattle.nmvs_directory.specs.Registrar.{published, pending}
use Rattle.nmvs_directory.proofs.registrar.Registrar.hand_over.Given as goal

abbrev pub invariant-loop-change : goal.invariant-loop-change
invariant-loop-change g l =
    (published l.self ≡ published l.fn.self) × (pending l.self ≡ pending l.fn.self) × (l.self.handed ≡ l.self.list)

abbrev pub decreases-loop-change : goal.decreases-loop-change
decreases-loop-change g l = length (pending l.self) - l.self.changes.entered
