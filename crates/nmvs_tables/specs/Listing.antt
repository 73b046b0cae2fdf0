-- The batches of each product code.
use Rattle.std.specs.Prelude.{ℕ, ◌≡◌, ◌<◌, ◌==◌, Bool, ◌&&◌, List, map, filter, length, slice_get, unwrap_or}
use Rattle.std.specs.HashMap.{HashMap, get, spare}
use Rattle.nmvs_identifier.specs.ProductCode.{ProductCode}
use Rattle.nmvs_identifier.specs.Batch.{Batch}
use Rattle.nmvs_identifier.specs.Texts.{same_text}
use Rattle.nmvs_rules.specs.declared.entry.Entry.{Entry}
use Rattle.nmvs_tables.specs.declared.batches.BatchKey.{BatchKey}
use Rattle.nmvs_tables.specs.declared.listing.BatchIndex.{BatchIndex}
use Rattle.nmvs_tables.specs.declared.listing.Listing.{Listing}
use Rattle.nmvs_tables.specs.Batches.{batches_of}

-- the batches of the product code among these, in their order
abbrev pub of_code : ProductCode → List BatchKey → List Batch
of_code c bs = map (λ b. b.batch) (filter (λ b. same_text c b.code) bs)

-- the batches of the product code that have an accepted upload, each once, in the order of the first ones (own)
abbrev pub code_batches : List Entry → ProductCode → List Batch
code_batches t c = of_code c (batches_of t)

-- whether two indexes are the same, of one product code
abbrev pub same_index : BatchIndex → BatchIndex → Bool
same_index a b = same_text a.code b.code && (a.index == b.index)

-- the number of batches of a product code, by a table
abbrev pub listed_in : {S : Type 0} → HashMap ProductCode ℕ S → ProductCode → ℕ
listed_in m c = unwrap_or (get same_text m c) 0

-- the listing has the batches of each product code among these, in their order
pub record AreListed {A : Type 0} (listing : Listing A) (bs : List BatchKey) : Type 0 where
  pub counts : (c : ProductCode) → listed_in listing.counts c ≡ length (of_code c bs)
  pub batches : (p : BatchIndex) → get same_index listing.batches p ≡ slice_get (of_code p.code bs) p.index

-- one more batch fits with no growth
pub record HasRoomToList {A : Type 0} (listing : Listing A) : Type 0 where
  pub counts : 0 < spare listing.counts
  pub batches : 0 < spare listing.batches
