use Rattle.std.proofs.Common.{◌++◌, ◌∙◌, List, ℕ, take, sym, ap, ap₂, append_assoc, arith}
use Rattle.std.specs.List.{flat_map}
use Rattle.nmvs_tables.specs.Listing.{code_batches}
use Rattle.nmvs_reports.proofs.ReportLemmas.{none_past}
use Rattle.nmvs_inspect.proofs.BatchLines.{lines-next}
use Rattle.nmvs_inspect.specs.Reports.{batch_row, record_row}
use Rattle.nmvs_inspect.proofs.ReportRowLemmas.{row-batch}
use Rattle.nmvs_inspect.proofs.reports.append_batches.Goals as goal
use Rattle.nmvs_inspect.proofs.reports.append_batches.Goals.{in-Some+in_ok-append_batch-in-Some, in-None}

pub loop-index-preserved : goal.loop-index-preserved
loop-index-preserved g c t agree =
    let code = c.args.code.now in
    let i = c.loop-index.index in
    let batches = code_batches t code in
    let before = flat_map (batch_row t code) (take i batches) in
    elim c.match-batch_of.branch [
      | in-Some+in_ok-append_batch-in-Some w ↦
          let b = w.in-Some.found.0 in
          rw w.block-is (
          w.in_ok-append_batch-in-Some.ensures
          ∙ ap₂ (λ (x y : List ℕ). x ++ y) (c.loop-index.invariant t agree) (row-batch (record_row code b) t code b w.in-Some.found.1 (w.in-Some.ensures.counts t agree))
          ∙ append_assoc c.args.block.now.items before (batch_row t code b)
          ∙ ap (λ (x : List ℕ). c.args.block.now.items ++ x) (sym (lines-next (batch_row t code) batches i b (sym (w.in-Some.ensures.batch t agree))))
          )
      | in-None w ↦ absurd (none_past batches i (sym (w.in-None.ensures.batch t agree)) (omega (arith, c.loop-index-test.true, c.batches_of-index-end.ensures t agree)))
    ]
