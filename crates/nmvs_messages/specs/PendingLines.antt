-- The kept part of a line that was begun (own).
use Rattle.std.specs.Prelude.{ℕ, List, take}

-- the kept part of a line is enough to judge it. A line may have 200 bytes, so one more shows that it is too long.
abbrev pub kept_part : List ℕ → List ℕ
kept_part x = take 201 x
