use Rattle.std.specs.Prelude.{ℕ, ◌≡◌, ◌+◌, ◌≤◌, Some, length, slice_get, vec_len, vec_capacity}
use Rattle.nmvs_history.specs.Views.{KeeperView}
use Rattle.nmvs_desk.specs.Opening.{AreLocked, IsFresh}
use Rattle.nmvs_desk.specs.Settlement.{row}
use Rattle.nmvs_desk.proofs.opening.keep_all.Given as goal

abbrev pub invariant-loop-locked : goal.invariant-loop-locked
invariant-loop-locked g l =
    let h = g.H.Histories in
    AreLocked 8 (vec_len l.locked) h.opening l.locked.items
    × ((j : ℕ) (k : KeeperView) → slice_get l.list.items j ≡ Some k → (k.table ≡ h.tables (vec_len l.locked + j)) × IsFresh k)
    × ((j : ℕ) → row l.shards.items j ≡ row l.initial.shards.items (vec_len l.locked + j))
    × (vec_len l.shards ≡ vec_len l.list) × (vec_len l.locked + vec_len l.list ≡ length l.initial.list.items)
    × (length l.initial.list.items ≤ vec_capacity l.locked)

abbrev pub decreases-loop-locked : goal.decreases-loop-locked
decreases-loop-locked g l = length l.list.items
