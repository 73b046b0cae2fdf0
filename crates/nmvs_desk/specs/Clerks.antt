-- The invariant of a clerk (own).
use Rattle.std.specs.Prelude.{ℕ, ◌≡◌, List, Some, length}
use Rattle.std.specs.List.{slice_get}
use Rattle.nmvs_history.specs.Views.{HistoryId, TokenView}
use Rattle.nmvs_rules.specs.Entries.{AreEntries}
use Rattle.nmvs_rules.specs.Rules.{IsLawful}
use Rattle.nmvs_desk.specs.declared.ask.Receipt.{Receipt}
use Rattle.nmvs_desk.specs.Placing.{IsPartOf}
use Rattle.nmvs_desk.specs.Settlement.{AreOwn, Rises}

-- the token of a shard, of `count`, is of the shard's history. It owns the places of the receipts that name the shard,
-- and of those that were let go. It has seen a lawful trail whose entries belong to the shard and are in their grammars
-- and ranges.
pub record IsTokenOf (tables : ℕ → HistoryId) (count : ℕ) (receipts : List Receipt) (shard : ℕ) (k : TokenView) : Type 0 where
  pub table : k.table ≡ tables shard
  pub places : AreOwn shard receipts k.places
  pub lawful : IsLawful k.seen
  pub in_range : AreEntries k.seen
  pub placed : IsPartOf count shard k.seen

-- the receipt's entry stands at its place in what the token of its shard has seen
pub record Stands (tokens : List TokenView) (r : Receipt) : Type 0 where
  pub token : TokenView
  pub is : slice_get tokens r.shard ≡ Some token
  pub stands : slice_get token.seen r.place ≡ Some r.entry

-- a clerk has a token of each shard, each receipt in hand stands, and their places rise
pub record IsClerk (tables : ℕ → HistoryId) (count : ℕ) (tokens : List TokenView) (receipts : List Receipt) : Type 0 where
  pub shards : length tokens ≡ count
  pub each : (i : ℕ) (k : TokenView) → slice_get tokens i ≡ Some k → IsTokenOf tables count receipts i k
  pub stand : (n : ℕ) (r : Receipt) → slice_get receipts n ≡ Some r → Stands tokens r
  pub rising : Rises receipts
