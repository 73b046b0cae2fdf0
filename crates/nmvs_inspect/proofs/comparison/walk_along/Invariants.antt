use Rattle.std.proofs.Common.{◌≡◌, ◌≤◌, length, unwrap_or}
use Rattle.nmvs_identifier.specs.ProductCode.{ProductCode}
use Rattle.nmvs_inspect.specs.Comparison.{AreNexts, head, seek}
use Rattle.nmvs_inspect.proofs.comparison.walk_along.Given as goal

abbrev pub invariant-loop-left : goal.invariant-loop-left
invariant-loop-left g l = record {
  within : l.left ≤ length l.shard;
  nexts : AreNexts l.left l.shard l.nexts.items;
  heads : (c : ProductCode) → unwrap_or (head l.heads c) (length l.shard) ≡ seek c l.shard l.left;
}

abbrev pub decreases-loop-left : goal.decreases-loop-left
decreases-loop-left g l = l.left
