use Rattle.std.specs.Prelude.{◌≡◌, ◌+◌, ◌<◌, ◌≤◌, ◌++◌, All, map, length, vec_len, vec_capacity}
use Rattle.nmvs_desk.specs.Opening.{IsOpened}
use Rattle.nmvs_desk.proofs.opening.lock_all.Given as goal

abbrev pub invariant-loop-slots : goal.invariant-loop-slots
invariant-loop-slots g l =
    (l.slots.items ++ map (λ h. h.index) l.shards.items ≡ map (λ h. h.index) l.initial.shards.items)
    × All (λ h. h.index < 8) l.shards.items
    × All (IsOpened g.H.Histories.clerks) l.shards.items
    × (vec_len l.slots + vec_len l.shards ≤ vec_capacity l.slots)

abbrev pub decreases-loop-slots : goal.decreases-loop-slots
decreases-loop-slots g l = length l.shards.items
