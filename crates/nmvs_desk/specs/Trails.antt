-- The trails of all shards.
use Rattle.std.specs.Prelude.{ℕ, ◌≡◌, List, length}
use Rattle.nmvs_rules.specs.declared.entry.Entry.{Entry}
use Rattle.nmvs_rules.specs.Entries.{AreEntries}
use Rattle.nmvs_rules.specs.Laws.{IsMerging}
use Rattle.nmvs_rules.specs.Repeats.{AreNew}
use Rattle.nmvs_rules.specs.Rules.{IsLawful}
use Rattle.nmvs_desk.specs.Views.{LockedView}
use Rattle.nmvs_desk.specs.Placing.{IsPartOf}
use Rattle.nmvs_desk.specs.Settlement.{row}

-- the trail of a shard, of `count`, is lawful, and its entries are in their grammars and ranges. Each entry's product
-- code belongs to the shard, and each question was new where it was put.
pub record IsKept (count : ℕ) (h : LockedView) : Type 0 where
  pub lawful : IsLawful h.trail
  pub in_range : AreEntries h.trail
  pub placed : IsPartOf count h.index h.trail

-- the trails of `count` shards, in order. Each is lawful, and its entries are in their grammars and ranges. Each
-- entry's product code belongs to its shard, and each question was new where it was put. Every merging of them is
-- lawful, and its questions were new.
pub record AreTrails (count : ℕ) (trails : List (List Entry)) : Type 0 where
  pub shards : length trails ≡ count
  pub lawful : (i : ℕ) → IsLawful (row trails i)
  pub in_range : (i : ℕ) → AreEntries (row trails i)
  pub placed : (i : ℕ) → IsPartOf count i (row trails i)
  pub whole : (t : List Entry) → IsMerging (row trails) t → IsLawful t × AreNew t
