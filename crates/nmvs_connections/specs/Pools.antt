-- The state that the workers of a server share (own).
use Rattle.std.specs.Prelude.{◌/◌, ℕ, zero, suc, Option}
use Rattle.nmvs_messages.specs.declared.peer.NameOf.{NameOf}

-- `proxy` is whether a gateway's header names a user or an authorisation, if each connection begins with one. `memory`
-- is the most bytes that the buffers of one worker's connections take.
pub record PoolState : Type 0 where
  pub proxy : Option NameOf
  pub memory : ℕ

-- the part of a bound that each of this number of workers has
abbrev pub share_of : ℕ → ℕ → ℕ
share_of all zero = 0
share_of all (suc others) = all / suc others
