use Rattle.std.specs.Prelude.{ℕ, ◌≡◌, ◌+◌, slice_get, vec_len}
use Rattle.nmvs_desk.proofs.Closings.{AreTaken}
use Rattle.nmvs_desk.proofs.settling.take_tokens.Given as goal

abbrev pub invariant-loop-shard : goal.invariant-loop-shard
invariant-loop-shard g l =
    AreTaken l.shard l.initial.tokens.items l.initial.closings.items l.closings.items
    × ((j : ℕ) → slice_get l.tokens.items j ≡ slice_get l.initial.tokens.items (l.shard + j))
    × (vec_len l.tokens + l.shard ≡ vec_len l.initial.tokens) × (vec_len l.closings ≡ vec_len l.initial.closings)
