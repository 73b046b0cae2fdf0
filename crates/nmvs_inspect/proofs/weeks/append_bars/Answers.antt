use Rattle.std.proofs.Common.{◌∙◌, ◌++◌, ap, List, ℕ}
use Rattle.nmvs_inspect.specs.Groups.{Group}
use Rattle.nmvs_inspect.specs.Weeks.{bar}
use Rattle.nmvs_inspect.proofs.ListLemmas.{block-next}
use Rattle.nmvs_inspect.proofs.weeks.append_bars.Goals as goal

pub loop-group-preserved : goal.loop-group-preserved
loop-group-preserved c =
    block-next bar _ _ _ c.args.groups.now c.loop-group.group-index c.group-item.result c.loop-group-test.true c.loop-group.invariant
    (c.in_ok-append_bar.ensures ∙ ap (λ (g : Group). c.loop-group.block.items ++ bar g) c.group-item.is)
