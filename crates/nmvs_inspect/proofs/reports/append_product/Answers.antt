use Rattle.std.proofs.Common.{◌++◌, ◌∙◌, List, ℕ, Option, ap, ap₂, append_assoc}
use Rattle.std.proofs.lemmas.Result.{on_ok_weaker}
use Rattle.nmvs_identifier.specs.Name.{Name}
use Rattle.nmvs_rules.specs.Trail.{alerts_of, holder_of}
use Rattle.nmvs_tables.specs.Codes.{flagged_alerts_of}
use Rattle.nmvs_inspect.specs.Reports.{holder_cells, alert_numbers}
use Rattle.nmvs_inspect.proofs.reports.append_product.Goals as goal

pub returns : goal.returns
returns g c = λ t agree.
    let old = c.args.block.now.items in
    let code = c.args.code.now in
    let holder = c.in_ok-append_holder.ensures ∙ ap (λ (o : Option Name). old ++ holder_cells code o) (c.holder-holder.ensures t agree) in
    let alerts = ap₂ alert_numbers (ap (λ (p : ℕ × ℕ). p.0) (c.alerts-alerts.ensures t agree)) (ap (λ (p : ℕ × ℕ). p.1) (c.alerts-alerts.ensures t agree)) in
    on_ok_weaker c.append_alerts.result
    (λ h. h ∙ ap₂ (λ (x y : List ℕ). x ++ y) holder alerts ∙ append_assoc old (holder_cells code (holder_of t code)) (alert_numbers (alerts_of t code) (flagged_alerts_of t code)))
    c.append_alerts.ensures
