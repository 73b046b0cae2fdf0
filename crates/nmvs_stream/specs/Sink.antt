-- Sinks of bytes. (own)
use Rattle.std.specs.Prelude.{◌≡◌, ◌≤◌, ◌<◌, ◌==◌, ◌&&◌, ℕ, List, [], ◌++◌, length, take, Bool, true, false}

-- the model of a sink: the bytes that it took, whether all of them were flushed, and whether a write or a flush failed
pub record Taken : Type 0 where
  pub bytes : List ℕ
  pub flushed : Bool
  pub failed : Bool

-- the model of a sink to which nothing was written
abbrev pub untouched_sink : Taken
untouched_sink = record { bytes = []; flushed = true; failed = false }

-- a write took this number of bytes from the front of the buffer, at least one unless the buffer is empty
pub record Takes (old new : Taken) (buffer : List ℕ) (count : ℕ) : Type 0 where
  pub some : 0 < length buffer → 0 < count
  pub fits : count ≤ length buffer
  pub bytes : new.bytes ≡ old.bytes ++ take count buffer
  pub flushed : new.flushed ≡ (old.flushed && (count == 0))
  pub failed : new.failed ≡ old.failed

-- a flush handed on all bytes
pub record Flushes (old new : Taken) : Type 0 where
  pub bytes : new.bytes ≡ old.bytes
  pub flushed : new.flushed ≡ true
  pub failed : new.failed ≡ old.failed

-- a write or a flush failed, and nothing was taken
pub record FailsToTake (old new : Taken) : Type 0 where
  pub bytes : new.bytes ≡ old.bytes
  pub flushed : new.flushed ≡ old.flushed
  pub failed : new.failed ≡ true
