use Rattle.std.proofs.Common.{◌++◌, ◌∙◌, List, ℕ, take, get_or, sym, ap, append_assoc, subst}
use Rattle.std.specs.List.{flat_map}
use Rattle.nmvs_identifier.specs.ProductCode.{ProductCode}
use Rattle.nmvs_tables.specs.Listing.{code_batches}
use Rattle.nmvs_inspect.specs.Gathering.{IsGathered}
use Rattle.nmvs_inspect.specs.Reports.{heads, product_row, batch_row, code_rows}
use Rattle.nmvs_inspect.proofs.GatheringLemmas.{gathered-more}
use Rattle.nmvs_inspect.proofs.ListLemmas.{flat_map-next}
use Rattle.nmvs_inspect.proofs.reports.write_report_rows.Goals as goal

pub loop-code-preserved : goal.loop-code-preserved
loop-code-preserved g c =
    let t = c.args.shard.now in
    let cs = c.args.codes.now in
    let i = c.loop-code.code-index in
    let code = c.code-item.result in
    let agree = c.tables-tables.ensures.agree in
    let before = flat_map (code_rows t) (take i cs) in
    let batches = flat_map (batch_row t code) (code_batches t code) in
    let block =
    c.in_ok-append_batches.ensures t agree ∙ ap (λ (x : List ℕ). x ++ batches) (c.in_ok-append_product.ensures t agree)
    ∙ append_assoc c.loop-code.block.items (product_row t code) batches in
    let text =
    append_assoc heads before (code_rows t code) ∙ ap (λ (x : ProductCode). heads ++ (before ++ code_rows t x)) c.code-item.is
    ∙ ap (λ (x : List ℕ). heads ++ x) (sym (flat_map-next (code_rows t) cs i code c.loop-code-test.true)) in
    let gathered : List ℕ → Type 0 = λ x. IsGathered (g.W.Sink.taken c.args.sink.now) (g.W.Sink.taken c.write_full.new.sink) c.write_full.new.block.items x in
    subst gathered text (c.in_ok-write_full.ensures _ _ (gathered-more _ _ _ _ _ _ c.loop-code.invariant block))
