-- Beginnings of one list of changes.
use Rattle.std.specs.Prelude.{◌<◌, ◌-◌, Option, slice_get, List, length}
use mathlib.Core.List.{IsPrefix}
use Rattle.nmvs_directory.specs.declared.change.Change.{Change}

-- ys begins with xs and goes on (own)
abbrev pub IsLonger : List Change → List Change → Type 0
IsLonger xs ys = IsPrefix xs ys × (length xs < length ys)

-- the newest change of a list (own)
abbrev pub last_of : List Change → Option Change
last_of changes = slice_get changes (length changes - 1)
