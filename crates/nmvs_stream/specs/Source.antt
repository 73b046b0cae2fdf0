-- Sources of bytes. (own)
use Rattle.std.specs.Prelude.{◌≡◌, ◌≤◌, ◌+◌, ◌==◌, ◌||◌, ℕ, List, [], ◌++◌, length, take, Bool, true, false}

-- the model of a source: the bytes that it gave, the number of reads, whether its end was read, and whether a read failed
pub record Told : Type 0 where
  pub bytes : List ℕ
  pub reads : ℕ
  pub ended : Bool
  pub failed : Bool

-- the model of a source of which nothing was read
abbrev pub untouched_source : Told
untouched_source = record { bytes = []; reads = 0; ended = false; failed = false }

-- a read gave this number of bytes at the front of the buffer; 0 is the end
pub record Gives (old new : Told) (buffer : List ℕ) (count : ℕ) : Type 0 where
  pub fits : count ≤ length buffer
  pub bytes : new.bytes ≡ old.bytes ++ take count buffer
  pub reads : new.reads ≡ old.reads + 1
  pub ended : new.ended ≡ (old.ended || (count == 0))
  pub failed : new.failed ≡ old.failed

-- a read failed, and gave nothing
pub record FailsToGive (old new : Told) : Type 0 where
  pub bytes : new.bytes ≡ old.bytes
  pub reads : new.reads ≡ old.reads + 1
  pub ended : new.ended ≡ old.ended
  pub failed : new.failed ≡ true
