use Rattle.std.specs.Prelude.{◌≡◌, ◌-◌, ◌≤◌, All, vec_len, vec_capacity}
use Rattle.nmvs_desk.specs.Opening.{AreLocked, AreNew}
use Rattle.nmvs_desk.proofs.opening.give_tokens.Given as goal

abbrev pub invariant-loop-clerk : goal.invariant-loop-clerk
invariant-loop-clerk g l =
    let h = g.H.Histories in
    AreLocked (8 - l._clerk) h.shards h.opening l.shards.items
    × (vec_len l.sets ≡ l._clerk) × (l.clerks ≤ vec_capacity l.sets)
    × All (λ tokens. AreNew h.tables h.shards h.opening h.shards tokens.items) l.sets.items
