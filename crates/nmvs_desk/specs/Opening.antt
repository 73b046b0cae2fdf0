-- The opening of shards, each with the trail that it has before anybody asks (own).
use Rattle.std.specs.Prelude.{ℕ, ◌≡◌, ◌+◌, ◌<◌, Some, List, [], length, slice_get}
use Rattle.std.specs.List.{slice_index_or}
use Rattle.nmvs_history.specs.Views.{HistoryId, KeeperView, TokenView, no_table}
use Rattle.nmvs_rules.specs.declared.entry.Entry.{Entry}
use Rattle.nmvs_rules.specs.Entries.{AreEntries}
use Rattle.nmvs_rules.specs.Rules.{IsLawful}
use Rattle.nmvs_desk.specs.Placing.{IsPartOf}
use Rattle.nmvs_desk.specs.Settlement.{row}
use Rattle.nmvs_desk.specs.Views.{LockedView, ClerkView}

-- the history of the shard of this number, among those of all keepers
abbrev pub table_of : List HistoryId → ℕ → HistoryId
table_of tables i = slice_index_or tables i no_table

-- the keeper of a history that has no entry and no token
abbrev pub IsFresh : KeeperView → Type 0
IsFresh k = (k.seen ≡ []) × (k.parts ≡ 9)

-- the first n locked shards are numbered from 0, have these trails, and have this number of parts left of each history
pub record AreLocked (left n : ℕ) (opening : ℕ → List Entry) (shards : List LockedView) : Type 0 where
  pub length : length shards ≡ n
  pub each : (i : ℕ) (h : LockedView) → slice_get shards i ≡ Some h → h ≡ record { trail = opening i; index = i; parts = left }

-- this number of clerks have a token of the shard's history
abbrev pub IsOpened : ℕ → LockedView → Type 0
IsOpened clerks h = h.parts + clerks ≡ 8

-- the token of a shard, of `count`, that has seen the trail of the opening, and owns no place of it
pub record IsNewToken (tables : ℕ → HistoryId) (count : ℕ) (opening : ℕ → List Entry) (shard : ℕ) (k : TokenView) : Type 0 where
  pub is : k ≡ record { table = tables shard; seen = opening shard; places = [] }
  pub lawful : IsLawful (opening shard)
  pub in_range : AreEntries (opening shard)
  pub placed : IsPartOf count shard (opening shard)

-- the tokens of the first n shards, of `count`
pub record AreNew (tables : ℕ → HistoryId) (count : ℕ) (opening : ℕ → List Entry) (n : ℕ) (tokens : List TokenView) : Type 0 where
  pub length : length tokens ≡ n
  pub each : (i : ℕ) (k : TokenView) → slice_get tokens i ≡ Some k → IsNewToken tables count opening i k

-- a clerk that has no receipt and no place, and has seen the trail of the opening of each shard
pub record IsNew (count : ℕ) (opening : ℕ → List Entry) (c : ClerkView) : Type 0 where
  pub receipts : c.receipts ≡ []
  pub sights : (i : ℕ) → i < count → row c.sights i ≡ opening i
  pub places : (i : ℕ) → i < count → row c.places i ≡ []
