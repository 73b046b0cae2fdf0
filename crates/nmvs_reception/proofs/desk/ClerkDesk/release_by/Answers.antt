use Rattle.nmvs_reception.proofs.DeskTurns.{lets_go}
use Rattle.nmvs_reception.proofs.desk.ClerkDesk.release_by.Goals as goal

pub returns-clause-released : goal.returns-clause-released
returns-clause-released g c = rw (← c.self.view_is) c.release-released.ensures.released

pub returns-clause-moves : goal.returns-clause-moves
returns-clause-moves g c = rw (← c.self.view_is) (lets_go _ _ c.release-released.ensures.seen c.release-released.ensures.same)
