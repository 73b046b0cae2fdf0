-- The users who have raised flagged alerts, and how many (own).
use Rattle.std.specs.Prelude.{◌≡◌, ◌+◌, ℕ, List, take, reverse, min, Option, Some, None}
use Rattle.std.specs.List.Sorted.{IsNonDecreasingBy, IsPermutation}
use Rattle.std.specs.Map.{lookup}
use Rattle.indexmap.specs.IndexMap.{insert_entry}
use Rattle.nmvs_identifier.specs.Name.{Name}
use Rattle.nmvs_identifier.specs.Texts.{same_text}
use Rattle.nmvs_reception.specs.declared.tally.Raised.{Raised}

-- the number of alerts of a user with this row, if there is one
abbrev pub count_of : Option Raised → ℕ
count_of None = 0
count_of (Some raised) = raised.count

-- the users after one more alert, each once: a user with earlier alerts keeps its place, and a new one goes last. A
-- count ends at the most that 64 bits hold.
abbrev pub with_alert : List (Name × Raised) → Name → Name → List (Name × Raised)
with_alert users user premises =
    insert_entry same_text users user (record { premises = premises; count = min (count_of (lookup (same_text user) users) + 1) 18446744073709551615 })

-- the number of alerts of a row's user
abbrev pub row_count : Name × Raised → ℕ
row_count row = row.1.count

-- at most this number of these users: those who have raised most, most first
pub record FindsMost (most : ℕ) (users found : List (Name × Raised)) : Type 0 where
  pub all : List (Name × Raised)
  pub same : IsPermutation users all
  pub order : IsNonDecreasingBy row_count all
  pub first : found ≡ take most (reverse all)
