-- Texts.
use Rattle.std.specs.Prelude.{Bool, ℕ, List, ◌≡◌, ◌-◌, ◌≤◌, ◌<◌, length, take, drop, replicate, IsUtf8}
use Rattle.std.specs.Str.{bytes_eq}

-- the model of a text
pub record Text : Type 0 where
  pub bytes : List ℕ

-- the most bytes of a serial number, a batch number or a name (GS1 General Specifications, sections 3.4.1 and 3.5.2; for
-- names own)
abbrev pub longest_text : ℕ
longest_text = 20

-- whether two texts are the same
abbrev pub same_text : Text → Text → Bool
same_text s t = bytes_eq s.bytes t.bytes

-- the first len cells are a text of at most cap bytes, zeros follow it, and its length fits a byte
pub record IsShortText (cap len : ℕ) (cells : List ℕ) : Type 0 where
  pub small : cap < 256
  pub fits : len ≤ cap
  pub whole : length cells ≡ cap
  pub zeros : drop len cells ≡ replicate (cap - len) 0
  pub text : ∥ IsUtf8 (take len cells) ∥₁
