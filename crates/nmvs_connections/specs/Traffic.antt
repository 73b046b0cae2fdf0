-- The bytes of a connection (own).
use Rattle.std.specs.Prelude.{ℕ, List}

-- the bytes that were read from it, and those that were written to it
pub record Traffic : Type 0 where
  pub received : List ℕ
  pub sent : List ℕ
