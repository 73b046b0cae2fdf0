-- Writes to a connection (own).
use Rattle.std.specs.Prelude.{ℕ, ◌≤◌}
use Rattle.nmvs_admin.specs.declared.connection.Sent.{Sent}
use Rattle.nmvs_admin.specs.declared.connection.Sent.TheVariants as sent

-- no more bytes were taken than there were
abbrev pub IsWithin : Sent → ℕ → Type 0
IsWithin (sent.Bytes count) most = count ≤ most
IsWithin sent.Blocked most = Unit {0}
IsWithin sent.Broken most = Unit {0}
