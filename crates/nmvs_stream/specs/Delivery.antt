-- The delivery of a text to a sink (own).
use Rattle.std.specs.Prelude.{◌≡◌, ℕ, List, [], ◌++◌, true}
use Rattle.nmvs_stream.specs.Sink.{Taken}

-- the sink took the text, and a flush is still to come
pub record Writes (old new : Taken) (text : List ℕ) : Type 0 where
  pub bytes : new.bytes ≡ old.bytes ++ text
  pub flushed : text ≡ [] → new.flushed ≡ old.flushed
  pub failed : new.failed ≡ old.failed

-- the sink took the text and flushed it
pub record Delivers (old new : Taken) (text : List ℕ) : Type 0 where
  pub bytes : new.bytes ≡ old.bytes ++ text
  pub flushed : new.flushed ≡ true
  pub failed : new.failed ≡ old.failed

-- the sink took some of the text from the front, and failed
pub record DeliversPart (old new : Taken) (text : List ℕ) : Type 0 where
  pub written : List ℕ
  pub unwritten : List ℕ
  pub cut : text ≡ written ++ unwritten
  pub bytes : new.bytes ≡ old.bytes ++ written
  pub flushed : written ≡ [] → new.flushed ≡ old.flushed
  pub failed : new.failed ≡ true
