use Rattle.std.specs.Prelude.{◌≡◌, ◌+◌, ◌≤◌, ◌++◌, All, map, length, vec_len, vec_capacity}
use Rattle.nmvs_desk.specs.Opening.{IsOpened}
use Rattle.nmvs_desk.proofs.settling.unlock_all.Given as goal

abbrev pub invariant-loop-shards : goal.invariant-loop-shards
invariant-loop-shards g l =
    (map (λ h. h.index) l.shards.items ++ l.slots.items ≡ l.initial.slots.items)
    × All (IsOpened g.H.Histories.clerks) l.shards.items
    × (vec_len l.shards + vec_len l.slots ≤ vec_capacity l.shards)
    × (vec_len l.shards + vec_len l.slots ≤ vec_capacity l.slots)

abbrev pub decreases-loop-shards : goal.decreases-loop-shards
decreases-loop-shards g l = length l.slots.items
