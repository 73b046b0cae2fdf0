use Rattle.std.proofs.Common.{◌++◌, ◌∙◌, List, ℕ, Option, ap, ap₂}
use Rattle.std.proofs.lemmas.Result.{on_ok_weaker}
use Rattle.nmvs_identifier.specs.Name.{Name}
use Rattle.nmvs_rules.specs.Trail.{holder_of}
use Rattle.nmvs_inspect.specs.Page.{holder_row}
use Rattle.nmvs_inspect.proofs.page.append_product.Goals as goal

pub returns : goal.returns
returns g c = λ t agree.
    let old = c.args.block.now.items in
    let code = c.args.code.now in
    let told = c.alerts-alerts.ensures t agree in
    let holder = ap (λ (o : Option Name). old ++ holder_row code o c.alerts-alerts.result.0 c.alerts-alerts.result.1) (c.holder-holder.ensures t agree) in
    let alerts = ap (λ (p : ℕ × ℕ). old ++ holder_row code (holder_of t code) p.0 p.1) told in
    on_ok_weaker c.append_holder.result (λ h. h ∙ holder ∙ alerts) c.append_holder.ensures
