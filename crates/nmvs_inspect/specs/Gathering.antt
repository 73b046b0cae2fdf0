-- A text that is gathered in blocks before it is written (own).
use Rattle.std.specs.Prelude.{◌≡◌, ℕ, List, ◌++◌}
use Rattle.nmvs_stream.specs.Sink.{Taken}

-- the sink took the front of the text since `old`, and the block holds the rest
pub record IsGathered (old new : Taken) (block text : List ℕ) : Type 0 where
  pub written : List ℕ
  pub bytes : new.bytes ≡ old.bytes ++ written
  pub whole : written ++ block ≡ text
  pub failed : new.failed ≡ old.failed
