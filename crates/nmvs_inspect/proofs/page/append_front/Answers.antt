use Rattle.std.proofs.Common.{◌∙◌, ◌++◌, ap, List, ℕ, append_assoc}
use Rattle.std.specs.List.{flat_map}
use Rattle.std.proofs.lemmas.Result.{on_ok_weaker}
use Rattle.nmvs_inspect.specs.Page.{front_text, head_text, product_row, batch_rows}
use Rattle.nmvs_inspect.specs.declared.page.TheConstants.{BATCHES}
use Rattle.nmvs_inspect.proofs.ListLemmas.{text-next}
use Rattle.nmvs_inspect.proofs.page.append_front.Goals as goal

pub returns : goal.returns
unfolding front_text
returns g c =
    let t = c.args.shard.now in
    let agree = c.tables-tables.ensures.agree in
    let old = c.args.block.now.items in
    let head = head_text c.args.verdict.now in
    let products = flat_map (product_row t) c.args.codes.now in
    let batches = flat_map (batch_rows t) c.args.codes.now in
    let three = text-next old (head ++ products) BATCHES.now _ _ (text-next old head products _ _ c.in_ok-append_head.ensures (c.in_ok-append_products.ensures t agree)) c.in_ok-append_html.ensures in
    on_ok_weaker c.append_batches.result
    (λ h. text-next old ((head ++ products) ++ BATCHES.now) batches _ _ three h
    ∙ ap (λ (x : List ℕ). old ++ x) (append_assoc (head ++ products) BATCHES.now batches ∙ append_assoc head products (BATCHES.now ++ batches)))
    (c.append_batches.ensures t agree)
