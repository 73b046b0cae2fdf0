-- The entries of a trail that a filter takes, in order of time (own).
use Rattle.std.specs.Prelude.{◌≡◌, ℕ, List, [], ◌∷◌, filter, if◌then◌else◌, nat_lt}
use Rattle.nmvs_rules.specs.declared.entry.Entry.{Entry}
use Rattle.nmvs_inspect.specs.Filter.{takes}
use Rattle.nmvs_inspect.specs.declared.filter.Filter.{Filter}

-- an entry before the first of these that is not older
abbrev pub with_older : Entry → List Entry → List Entry
with_older e [] = e ∷ []
with_older e (d ∷ ds) = if nat_lt d.put.moment e.put.moment then d ∷ with_older e ds else e ∷ d ∷ ds

-- the same entries, the oldest first; those of one moment stay in their order
abbrev pub oldest_first : List Entry → List Entry
oldest_first [] = []
oldest_first (e ∷ es) = with_older e (oldest_first es)

-- the entries that a filter takes: in the order of the trail, and the oldest first
abbrev pub taken : Filter → List Entry → List Entry
taken f t = filter (takes f t) t

abbrev pub selected : Filter → List Entry → List Entry
selected f t = oldest_first (taken f t)
