use Rattle.nmvs_inspect.specs.Html.{number_cell}
use Rattle.nmvs_inspect.proofs.ListLemmas.{block-next}
use Rattle.nmvs_inspect.proofs.html.append_numbers.Goals as goal

pub loop-number-preserved : goal.loop-number-preserved
loop-number-preserved c =
    block-next number_cell _ _ _ c.args.numbers.now c.loop-number.number-index 0 c.loop-number-test.true c.loop-number.invariant c.in_ok-append_number.ensures
