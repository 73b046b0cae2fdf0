use Rattle.std.proofs.Common.{length}
use Rattle.nmvs_etcd.proofs.answer.+are_left.Given as goal

abbrev pub decreases-are_left : goal.decreases-are_left
decreases-are_left l = length l.left.now
