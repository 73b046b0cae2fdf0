use Rattle.std.proofs.Common.{◌≡◌, ◌++◌, List, take}
use Rattle.std.specs.List.{flat_map}
use Rattle.nmvs_rules.specs.declared.entry.Entry.{Entry}
use Rattle.nmvs_tables.specs.Tables.{AreTablesOf}
use Rattle.nmvs_inspect.specs.Page.{product_row}
use Rattle.nmvs_inspect.proofs.page.append_products.Given as goal

abbrev pub invariant-loop-code : goal.invariant-loop-code
invariant-loop-code g l =
    (t : List Entry) → AreTablesOf l.tables t →
    l.block.items ≡ l.fn.block.items ++ flat_map (product_row t) (take l.code-index l.codes)
