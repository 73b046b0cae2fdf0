-- The views of a locked shard, a clerk and a repository in clauses.
use Rattle.std.specs.Prelude.{◌≡◌, ℕ, ◌<◌, Bool, List, length, map, slice_index}
use Rattle.nmvs_history.specs.Views.{TokenView}
use Rattle.nmvs_rules.specs.declared.entry.Entry.{Entry}
use Rattle.nmvs_directory.specs.declared.change.Change.{Change}
use Rattle.nmvs_desk.specs.declared.ask.Receipt.{Receipt}

-- a shard with its keeper: its trail and its number, and how many parts of its history the keeper has
pub record LockedView : Type 0 where
  pub trail : List Entry
  pub index : ℕ
  pub parts : ℕ

-- a clerk: the changes of the directory that it saw or learned, the receipts that it has in hand, and whether it keeps
-- receipts. For each shard it has the trail that it has seen, and its own places of that trail.
pub record ClerkView : Type 0 where
  pub seen : List Change
  pub sights : List (List Entry)
  pub places : List (List ℕ)
  pub receipts : List Receipt
  pub keeps : Bool

-- a repository as it was opened: how many shards and clerks it has
pub record RepositoryView : Type 0 where
  pub shards : ℕ
  pub clerks : ℕ

-- the numbers from 0
abbrev pub IsNumbered : List ℕ → Type 0
IsNumbered xs = (i : ℕ) → i < length xs → slice_index xs i ≡ i

-- the trails that tokens have seen
abbrev pub sights_of : List TokenView → List (List Entry)
sights_of tokens = map (λ (k : TokenView). k.seen) tokens

-- the places that tokens own
abbrev pub places_of : List TokenView → List (List ℕ)
places_of tokens = map (λ (k : TokenView). k.places) tokens
