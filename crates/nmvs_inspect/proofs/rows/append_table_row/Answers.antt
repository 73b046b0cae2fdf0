use Rattle.std.proofs.Common.{◌∙◌, ap, sym, ◌++◌, List, [], ℕ, get_or, Bor}
use Rattle.std.proofs.lemmas.List.{append-nil}
use Rattle.nmvs_inspect.specs.Rows.{filled}
use Rattle.nmvs_inspect.proofs.RowLemmas.{ending-last, ending-more, table-step, table-end}
use Rattle.nmvs_inspect.proofs.rows.append_table_row.Goals as goal
use Rattle.nmvs_inspect.proofs.rows.append_table_row.Goals.{then-i-cells, else-i-cells}

pub loop-i-preserved : goal.loop-i-preserved
loop-i-preserved c =
    let xs = c.args.cells.now in
    let i = c.loop-i.i in
    let empty : Bor (List ℕ) = record { ref_ptr = (0, 0); now = [] } in
    let cell = c.in_ok-append_filled.ensures ∙ ap (λ (w : ℕ). c.loop-i.block.items ++ filled w (get_or xs i empty).now) c.width_at.ensures in
    let step = table-step c.args.widths.now xs i empty c.loop-i.block.items _ c.push.new.self.items _ c.if-i-cells.push c.loop-i-test.true c.loop-i.invariant cell c.in_ok-push.ensures.items in
    elim c.if-i-cells.branch [
      | then-i-cells w ↦ step (w.push-is ∙ sym (ending-last xs i w.if-i-cells.true))
      | else-i-cells w ↦ step (w.push-is ∙ sym (ending-more xs i w.if-i-cells.false c.loop-i-test.true))
    ]

pub returns : goal.returns
returns c =
    sym (ap (λ (x : List ℕ). c.loop-i.block.items ++ x) (table-end c.args.widths.now c.args.cells.now c.loop-i.i c.loop-i-test.false) ∙ append-nil c.loop-i.block.items)
    ∙ c.loop-i.invariant
