use Rattle.nmvs_rate.proofs.Bounds.{never_more}
use Rattle.nmvs_rate.proofs.Refusals.{never_fewer}
use Rattle.nmvs_rate.proofs.laws.rates_are_kept.Goals as goal

pub returns-clause-more : goal.returns-clause-more
returns-clause-more c = never_more

pub returns-clause-fewer : goal.returns-clause-fewer
returns-clause-fewer c = never_fewer
