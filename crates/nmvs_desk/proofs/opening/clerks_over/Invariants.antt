use Rattle.std.specs.Prelude.{◌≡◌, ◌+◌, ◌≤◌, ◌++◌, All, map, length, vec_len, vec_capacity}
use Rattle.nmvs_desk.specs.Opening.{AreNew, IsNew}
use Rattle.nmvs_desk.proofs.opening.clerks_over.Given as goal

abbrev pub invariant-loop-windows : goal.invariant-loop-windows
invariant-loop-windows g l =
    let h = g.H.Histories in
    (map (λ c. c.seen) l.clerks.items ++ l.windows.items ≡ l.initial.windows.items)
    × All (λ tokens. AreNew h.tables h.shards h.opening h.shards tokens.items) l.sets.items
    × (vec_len l.sets ≡ vec_len l.windows) × All (IsNew h.shards h.opening) l.clerks.items
    × (vec_len l.clerks + vec_len l.windows ≤ vec_capacity l.clerks)

abbrev pub decreases-loop-windows : goal.decreases-loop-windows
decreases-loop-windows g l = length l.windows.items
