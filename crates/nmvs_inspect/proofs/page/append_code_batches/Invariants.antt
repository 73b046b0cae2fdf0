use Rattle.std.proofs.Common.{◌≡◌, ◌++◌, List, take}
use Rattle.std.specs.List.{flat_map}
use Rattle.nmvs_rules.specs.declared.entry.Entry.{Entry}
use Rattle.nmvs_tables.specs.Listing.{code_batches}
use Rattle.nmvs_tables.specs.Tables.{AreTablesOf}
use Rattle.nmvs_inspect.specs.Page.{batch_row}
use Rattle.nmvs_inspect.proofs.page.append_code_batches.Given as goal

abbrev pub invariant-loop-index : goal.invariant-loop-index
invariant-loop-index g l =
    (t : List Entry) → AreTablesOf l.tables t →
    l.block.items ≡ l.fn.block.items ++ flat_map (batch_row t l.code) (take l.index (code_batches t l.code))
