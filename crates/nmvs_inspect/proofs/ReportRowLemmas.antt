-- Rows of reports, batch by batch.
use Rattle.std.proofs.Common.{◌≡◌, ap, sym, Bool, true, false, cond, List, ℕ, Some, None}
use Rattle.nmvs_identifier.specs.Batch.{Batch}
use Rattle.nmvs_identifier.specs.ProductCode.{ProductCode}
use Rattle.nmvs_rules.specs.declared.entry.Entry.{Entry}
use Rattle.nmvs_rules.specs.declared.facts.BatchRecord.{BatchRecord}
use Rattle.nmvs_rules.specs.Trail.{is_known_batch, lock_of, counts_of, batch_record}

-- the row of a batch by its record
pub row-batch : (row : BatchRecord → List ℕ) (t : List Entry) (c : ProductCode) (b : Batch) (r : BatchRecord) → batch_record t c b ≡ Some r
    → row r ≡ row (record { lock = lock_of t c b; counts = counts_of t c b })
row-batch row t c b r e = go (is_known_batch t c b) e
  where
    whole : BatchRecord
    whole = record { lock = lock_of t c b; counts = counts_of t c b }

    go : (known : Bool) → cond known (Some whole) None ≡ Some r → row r ≡ row whole
    go true e = let same : whole ≡ r = cc in ap row (sym same)
    go false e = absurd cc
