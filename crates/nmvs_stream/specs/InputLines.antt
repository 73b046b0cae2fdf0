-- The lines of an input: the pieces that end with LF, each without it. Bytes after the last LF are no line (own).
use Rattle.std.specs.Prelude.{◌≢◌, ◌<◌, ◌==◌, if◌then◌else◌, ℕ, List, [], ◌∷◌, ◌++◌, length, slice_index}

-- no LF is among these bytes
abbrev pub HasNoLf : List ℕ → Type 0
HasNoLf bytes = (k : ℕ) → k < length bytes → slice_index bytes k ≢ 10

-- the lines of bytes that continue a line
unfoldable pub lines_after : List ℕ → List ℕ → List (List ℕ)
lines_after begun [] = []
lines_after begun (b ∷ bs) = if b == 10 then begun ∷ lines_after [] bs else lines_after (begun ++ b ∷ []) bs

-- the bytes after the last LF, in bytes that continue a line
unfoldable pub rest_after : List ℕ → List ℕ → List ℕ
rest_after begun [] = begun
rest_after begun (b ∷ bs) = if b == 10 then rest_after [] bs else rest_after (begun ++ b ∷ []) bs

-- the lines of an input
abbrev pub input_lines : List ℕ → List (List ℕ)
input_lines bytes = lines_after [] bytes

-- the bytes after the last LF of an input
abbrev pub unfinished_line : List ℕ → List ℕ
unfinished_line bytes = rest_after [] bytes
