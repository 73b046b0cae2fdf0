use Rattle.nmvs_cases.proofs.RangeLemmas.{own-ranges}
use Rattle.nmvs_cases.proofs.laws.ranges_have_their_own.Goals as goal

pub returns : goal.returns
returns c = own-ranges
