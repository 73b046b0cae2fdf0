use Rattle.std.proofs.Common.{◌≡◌, true, ap, subst, sym}
use Rattle.nmvs_rules.specs.declared.actor.Actor.{Actor}
use Rattle.nmvs_reception.specs.Desk.{may_ask_this}
use Rattle.nmvs_reception.proofs.TurnedAway.{an-authority, unlooked, whatever}
use Rattle.nmvs_reception.proofs.laws.admission.Goals as goal

pub returns-clause-unlooked : goal.returns-clause-unlooked
returns-clause-unlooked c old new from ask turn is = unlooked old new from ask turn is

pub returns-clause-whatever : goal.returns-clause-whatever
returns-clause-whatever c old new from ask turn sights is = whatever old new from ask turn sights is

pub returns-clause-reports : goal.returns-clause-reports
returns-clause-reports c old new from ask moment actor is report = an-authority ask.asked actor.role report (subst (λ r. may_ask_this ask.asked r ≡ true) (sym (ap (λ (a : Actor). a.role) is.capacity)) is.may)
