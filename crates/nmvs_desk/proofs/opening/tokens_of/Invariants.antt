use Rattle.std.specs.Prelude.{ℕ, ◌≡◌, ◌+◌, ◌≤◌, vec_len, vec_capacity}
use Rattle.nmvs_desk.specs.Opening.{AreLocked, AreNew}
use Rattle.nmvs_desk.proofs.Opened.{AreGiven}
use Rattle.nmvs_desk.proofs.opening.tokens_of.Given as goal

abbrev pub invariant-loop-index : goal.invariant-loop-index
invariant-loop-index g l =
    let h = g.H.Histories in
    ((left : ℕ) → AreLocked (left + 1) h.shards h.opening l.initial.shards.items → AreGiven left h.shards l.index h.opening l.shards.items)
    × AreNew h.tables h.shards h.opening l.index l.tokens.items
    × (vec_len l.tokens ≡ l.index) × (vec_len l.initial.shards ≤ vec_capacity l.tokens)
