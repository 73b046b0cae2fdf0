-- The result of a window's reading.
use Rattle.std.specs.Prelude.{◌≡◌, ◌⊎◌, List, []}
use mathlib.Core.List.{IsPrefix}
use Rattle.nmvs_identifier.specs.Name.{Name}
use Rattle.nmvs_directory.specs.Known.{known}
use Rattle.nmvs_directory.specs.declared.change.Change.{Change}
use Rattle.nmvs_directory.specs.declared.look.Look.{Look}
use Rattle.nmvs_directory.specs.declared.window.Looked.{Looked}
use Rattle.nmvs_directory.specs.declared.look.Look.TheVariants.{Closed}

-- a window that had seen one list of changes looked up a user. It then has a list that begins with the former, by which
-- the directory answers. Or the answer is Closed, and its list is the same (own).
abbrev pub Reads : List Change → List Change → Name → Look → Type 0
Reads before after user look =
    (IsPrefix before after × (look ≡ known after user)) ⊎ ((look ≡ Closed) × (after ≡ before))

-- a window that saw nothing and learned of nothing (own)
abbrev pub IsFresh : List Change → Type 0
IsFresh seen = seen ≡ []

-- the answer about a user by these changes
abbrev pub IsLooked : List Change → Looked → Type 0
IsLooked seen looked = looked.look ≡ known seen looked.user
