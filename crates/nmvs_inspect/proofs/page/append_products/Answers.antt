use Rattle.std.proofs.Common.{◌∙◌, ◌++◌, ap, List, ℕ}
use Rattle.nmvs_identifier.specs.ProductCode.{ProductCode}
use Rattle.nmvs_inspect.specs.Page.{product_row}
use Rattle.nmvs_inspect.proofs.ListLemmas.{block-next}
use Rattle.nmvs_inspect.proofs.page.append_products.Goals as goal

pub loop-code-preserved : goal.loop-code-preserved
loop-code-preserved g c t agree =
    block-next (product_row t) _ _ _ c.args.codes.now c.loop-code.code-index c.code-item.result c.loop-code-test.true (c.loop-code.invariant t agree)
    (c.in_ok-append_product.ensures t agree ∙ ap (λ (x : ProductCode). c.loop-code.block.items ++ product_row t x) c.code-item.is)
