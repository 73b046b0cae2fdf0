use Rattle.std.specs.Prelude.{◌≡◌, ◌≤◌, take, length, vec_len, vec_capacity}
use Rattle.nmvs_desk.specs.Closing.{trails_of, blank_owners}
use Rattle.nmvs_desk.proofs.settling.owners_for.Given as goal

abbrev pub invariant-loop-shard : goal.invariant-loop-shard
invariant-loop-shard g l =
    (l.owners.items ≡ blank_owners (trails_of (take l.shard l.locked.items))) × (vec_len l.owners ≡ l.shard) × (length l.locked.items ≤ vec_capacity l.owners)
