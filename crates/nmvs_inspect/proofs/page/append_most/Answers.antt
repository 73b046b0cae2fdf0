use Rattle.std.proofs.Common.{subst}
use Rattle.std.proofs.lemmas.Result.{on_ok_weaker}
use Rattle.nmvs_inspect.specs.Page.{premises_text}
use Rattle.nmvs_inspect.specs.Premises.{ArePremises, premises_rows}
use Rattle.nmvs_inspect.specs.declared.filter.Filter.{Filter}
use Rattle.nmvs_inspect.specs.declared.page.TheConstants.{PREMISES}
use Rattle.nmvs_inspect.proofs.ListLemmas.{text-next}
use Rattle.nmvs_inspect.proofs.page.append_most.Goals as goal

pub returns : goal.returns
unfolding premises_text
returns g c =
    let old = c.args.block.now.items in
    on_ok_weaker c.append_premises.result
    (λ w. (
      w.0,
      subst (λ (f : Filter). ArePremises f c.args.shard.now w.0) c.flagged_alerts.ensures w.1,
      text-next old PREMISES.now (premises_rows w.0) _ _ c.in_ok-append_html.ensures w.2,
    ))
    c.append_premises.ensures
