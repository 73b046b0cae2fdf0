use Rattle.std.proofs.Common.{◌∙◌, ◌++◌, ap, List, ℕ, append_assoc, subst}
use Rattle.std.specs.List.{flat_map}
use Rattle.std.proofs.lemmas.Result.{on_ok_weaker}
use Rattle.nmvs_inspect.specs.Groups.{AreSingle, Group, group_row, groups_of}
use Rattle.nmvs_inspect.specs.Page.{by_week, weeks_text}
use Rattle.nmvs_inspect.specs.Weeks.{chart}
use Rattle.nmvs_inspect.specs.declared.filter.Filter.{Filter}
use Rattle.nmvs_inspect.specs.declared.form.Form.TheVariants as form
use Rattle.nmvs_inspect.specs.declared.page.TheConstants.{CHART, WEEKS}
use Rattle.nmvs_inspect.proofs.ListLemmas.{text-next}
use Rattle.nmvs_inspect.proofs.page.append_weeks.Goals as goal

pub returns : goal.returns
unfolding weeks_text
returns g c =
    let t = c.args.shard.now in
    let old = c.args.block.now.items in
    let told = c.in_ok-weeks.ensures in
    let gs = groups_of by_week told.0 in
    let rows = flat_map (group_row form.Html by_week) gs in
    let single = subst (λ (f : Filter). AreSingle f t told.0) c.alerts-alerts.ensures told.1 in
    let picture = c.in_ok-append_chart.ensures ∙ ap (λ (gs : List Group). c.append_html.new.block.items ++ chart gs) (c.deref.ensures.value ∙ told.2) in
    let three = text-next old (CHART.now ++ chart gs) WEEKS.now _ _ (text-next old CHART.now (chart gs) _ _ c.in_ok-append_html.ensures picture) c.in_ok-append_html-2.ensures in
    on_ok_weaker c.append_groups.result
    (λ h. (
      told.0,
      single,
      text-next old ((CHART.now ++ chart gs) ++ WEEKS.now) rows _ _ three
          (h ∙ ap (λ (gs : List Group). c.append_html-2.new.block.items ++ flat_map (group_row form.Html by_week) gs) (c.deref-2.ensures.value ∙ told.2))
          ∙ ap (λ (x : List ℕ). old ++ x) (append_assoc (CHART.now ++ chart gs) WEEKS.now rows ∙ append_assoc CHART.now (chart gs) (WEEKS.now ++ rows)),
    ))
    c.append_groups.ensures
