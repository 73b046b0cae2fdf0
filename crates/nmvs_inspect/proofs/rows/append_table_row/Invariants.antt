use Rattle.std.proofs.Common.{◌≡◌, ◌++◌, drop, map}
use Rattle.nmvs_inspect.specs.Rows.{table_from, table_row}
use Rattle.nmvs_inspect.proofs.rows.append_table_row.Given as goal

abbrev pub invariant-loop-i : goal.invariant-loop-i
invariant-loop-i l =
    l.block.items ++ table_from l.widths l.i (map (λ c. c.now) (drop l.i l.cells)) ≡ l.fn.block.items ++ table_row l.widths (map (λ c. c.now) l.cells)
