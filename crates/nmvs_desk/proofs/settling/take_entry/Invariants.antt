use Rattle.std.specs.Prelude.{◌≡◌, ◌+◌, ◌≤◌, ◌++◌, All, map, length, vec_len, vec_capacity}
use mathlib.Core.List.{IsPrefix}
use Rattle.nmvs_desk.specs.Closing.{unlocked}
use Rattle.nmvs_desk.specs.Trails.{IsKept}
use Rattle.nmvs_desk.proofs.settling.take_entry.Given as goal

abbrev pub invariant-loop-closings : goal.invariant-loop-closings
invariant-loop-closings g l =
    (l.closings.items ++ map (unlocked g.H.Histories.tables g.H.Histories.opening) l.locked.items ≡ map (unlocked g.H.Histories.tables g.H.Histories.opening) l.initial.locked.items)
    × (All (IsKept g.H.Histories.shards) l.locked.items → All (IsKept g.H.Histories.shards) l.initial.locked.items)
    × (All (λ h. IsPrefix (g.H.Histories.opening h.index) h.trail) l.locked.items → All (λ h. IsPrefix (g.H.Histories.opening h.index) h.trail) l.initial.locked.items)
    × (vec_len l.closings + vec_len l.locked ≤ vec_capacity l.closings)

abbrev pub decreases-loop-closings : goal.decreases-loop-closings
decreases-loop-closings g l = length l.locked.items
