use Rattle.std.proofs.Common.{length, subst}
use Rattle.nmvs_history.specs.Views.{ClosingView, AreBelow}
use Rattle.nmvs_desk.proofs.settling.Unlocked.close.Goals as goal

pub returns-clause-places : goal.returns-clause-places
returns-clause-places g c = subst (λ (u : ClosingView). AreBelow (length u.seen) u.places) c.self.view_is c.close.ensures
