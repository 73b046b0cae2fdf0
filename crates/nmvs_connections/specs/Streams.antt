-- Reads and writes of a connection (own).
use Rattle.std.specs.Prelude.{◌≡◌, ◌≤◌, ℕ, List, ◌++◌, length, take}
use Rattle.nmvs_connections.specs.Traffic.{Traffic}
use Rattle.nmvs_connections.specs.declared.socket.Moved.{Moved}
use Rattle.nmvs_connections.specs.declared.socket.Moved.TheVariants as moved

-- no more bytes were moved than there was room for
abbrev pub IsWithin : Moved → ℕ → Type 0
IsWithin (moved.Bytes count) most = count ≤ most
IsWithin moved.Blocked most = Unit {0}
IsWithin moved.Over most = Unit {0}

-- the result of a read: this number of bytes, at the front of the buffer; or none
abbrev pub Reads : Traffic → Traffic → List ℕ → Moved → Type 0
Reads old new buffer (moved.Bytes count) = (count ≤ length buffer) × (new ≡ record old { received = old.received ++ take count buffer })
Reads old new buffer moved.Blocked = new ≡ old
Reads old new buffer moved.Over = new ≡ old

-- a write took this number of bytes from the front, or none
abbrev pub Writes : Traffic → Traffic → List ℕ → Moved → Type 0
Writes old new bytes (moved.Bytes count) = (count ≤ length bytes) × (new ≡ record old { sent = old.sent ++ take count bytes })
Writes old new bytes moved.Blocked = new ≡ old
Writes old new bytes moved.Over = new ≡ old
