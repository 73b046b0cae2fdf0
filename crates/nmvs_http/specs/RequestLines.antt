-- The lines of a body (own).
use Rattle.std.specs.Prelude.{◌==◌, ℕ, Bool, List, [], ◌∷◌, ◌++◌, length, if◌then◌else◌}
use Rattle.nmvs_stream.specs.InputLines.{unfinished_line}

-- whether no byte follows the last LF
unfoldable pub ends_line : List ℕ → Bool
ends_line body = length (unfinished_line body) == 0

-- a body, and LF after it if its last line has none
abbrev pub whole_lines : List ℕ → List ℕ
whole_lines body = if ends_line body then body else body ++ 10 ∷ []
