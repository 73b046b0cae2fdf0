-- The reports of product codes as rows of CSV (own): a row for each product code, and a row for each of its batches. A
-- cell without a value is empty, so that a column can be summed up.
use Rattle.std.specs.Prelude.{ℕ, ◌-◌, List, [], ◌∷◌, ◌++◌, codes, decimal, length, take, Option}
use Rattle.std.specs.List.{flat_map}
use Rattle.csv.specs.Writing.{default_writer, row_text}
use Rattle.nmvs_identifier.specs.Batch.{Batch}
use Rattle.nmvs_identifier.specs.Name.{Name}
use Rattle.nmvs_identifier.specs.ProductCode.{ProductCode}
use Rattle.nmvs_rules.specs.declared.entry.Entry.{Entry}
use Rattle.nmvs_rules.specs.declared.facts.BatchRecord.{BatchRecord}
use Rattle.nmvs_rules.specs.declared.facts.Counts.{Counts}
use Rattle.nmvs_rules.specs.Trail.{alerts_of, counts_of, holder_of, lock_of}
use Rattle.nmvs_tables.specs.Codes.{flagged_alerts_of}
use Rattle.nmvs_tables.specs.Listing.{code_batches}
use Rattle.nmvs_reports.specs.Report.{holder_word}
use Rattle.nmvs_words.specs.Words.{lock_word}

abbrev pub heads : List ℕ
heads = codes "code,batch,holder,alerts,flagged,lock,active,held,supplied,exported,sampled,destroyed,stolen\n"

-- cells as CSV, without an end of line
abbrev pub front : List (List ℕ) → List ℕ
front cs = let row = row_text default_writer cs in take (length row - 1) row

-- the row of a product code: its holder, and the numbers of its alerts and of its flagged alerts
abbrev pub holder_cells : ProductCode → Option Name → List ℕ
holder_cells c holder = front (c.bytes ∷ [] ∷ holder_word holder ∷ [])

abbrev pub alert_numbers : ℕ → ℕ → List ℕ
alert_numbers alerts flagged = codes "," ++ (decimal alerts ++ (codes "," ++ (decimal flagged ++ codes ",,,,,,,,\n")))

abbrev pub product_row : List Entry → ProductCode → List ℕ
product_row t c = holder_cells c (holder_of t c) ++ alert_numbers (alerts_of t c) (flagged_alerts_of t c)

-- the number of a batch's packs of each own status
abbrev pub first_numbers : Counts → List ℕ
first_numbers n =
    codes "," ++ (decimal n.active ++ (codes "," ++ (decimal n.held ++ (codes "," ++ (decimal n.supplied ++ (codes "," ++ decimal n.exported))))))

abbrev pub other_numbers : Counts → List ℕ
other_numbers n =
    codes "," ++ (decimal n.sampled ++ (codes "," ++ (decimal n.destroyed ++ (codes "," ++ (decimal n.stolen ++ codes "\n")))))

-- the row of a batch with a record: its lock, and these numbers
abbrev pub record_row : ProductCode → Batch → BatchRecord → List ℕ
record_row c b r =
    front (c.bytes ∷ b.bytes ∷ [] ∷ [] ∷ [] ∷ lock_word r.lock ∷ []) ++ (first_numbers r.counts ++ other_numbers r.counts)

abbrev pub batch_row : List Entry → ProductCode → Batch → List ℕ
batch_row t c b = record_row c b (record { lock = lock_of t c b; counts = counts_of t c b })

-- the rows of a product code, its batches in the order of their first accepted uploads
abbrev pub code_rows : List Entry → ProductCode → List ℕ
code_rows t c = product_row t c ++ flat_map (batch_row t c) (code_batches t c)

-- the rows of product codes, under their heads
abbrev pub rows_text : List Entry → List ProductCode → List ℕ
rows_text t cs = heads ++ flat_map (code_rows t) cs
