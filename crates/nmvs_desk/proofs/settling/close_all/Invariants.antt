use Rattle.std.specs.Prelude.{◌≡◌, ◌+◌, ◌≤◌, ◌++◌, All, length, vec_len, vec_capacity}
use Rattle.nmvs_history.specs.Views.{AreBelow}
use Rattle.nmvs_desk.specs.Closing.{seen_in}
use Rattle.nmvs_desk.proofs.settling.close_all.Given as goal

abbrev pub invariant-loop-shards : goal.invariant-loop-shards
invariant-loop-shards g l =
    (l.shards.items ++ seen_in l.closings.items ≡ seen_in l.initial.closings.items)
    × All (λ u. u.parts ≡ 9) l.closings.items
    × (All (λ u. AreBelow (length u.seen) u.places) l.closings.items → All (λ u. AreBelow (length u.seen) u.places) l.initial.closings.items)
    × (vec_len l.shards + vec_len l.closings ≤ vec_capacity l.shards)

abbrev pub decreases-loop-shards : goal.decreases-loop-shards
decreases-loop-shards g l = length l.closings.items
