use Rattle.std.proofs.Common.{◌∙◌, ◌++◌, List, ℕ, append_assoc, subst}
use Rattle.std.specs.List.{flat_map}
use Rattle.nmvs_stream.specs.Delivery.{Delivers}
use Rattle.nmvs_inspect.specs.Page.{alerts_text}
use Rattle.nmvs_inspect.specs.Rows.{AreTaken, entry_text}
use Rattle.nmvs_inspect.specs.declared.filter.Filter.{Filter}
use Rattle.nmvs_inspect.specs.declared.form.Form.TheVariants as form
use Rattle.nmvs_inspect.specs.declared.page.TheConstants.{ALERTS, FOOT}
use Rattle.nmvs_inspect.proofs.GatheringLemmas.{gathered-begin, gathered-more, gathered-end}
use Rattle.nmvs_inspect.proofs.page.write_alerts.Goals as goal

pub returns : goal.returns
unfolding alerts_text
returns g c =
    let w = c.in_ok-write_selected.ensures in
    let t = c.args.shard.now in
    let old = c.args.block.now.items in
    let rows = flat_map (entry_text form.Html) w.0 in
    let begun = w.2 (g.W.Sink.taken c.args.sink.now) (old ++ ALERTS.now) (gathered-begin _ _ _ c.in_ok-append_html.ensures) in
    let these = subst (λ (f : Filter). AreTaken f t w.0) c.flagged_alerts-filter.ensures w.1 in
    let text = append_assoc (old ++ ALERTS.now) rows FOOT.now ∙ append_assoc old ALERTS.now (rows ++ FOOT.now) in
    let delivered : List ℕ → Type 0 = λ x. Delivers (g.W.Sink.taken c.args.sink.now) (g.W.Sink.taken c.deliver.new.sink) x in
    let last = subst (λ (x : List ℕ). Delivers (g.W.Sink.taken c.write_selected.new.sink) (g.W.Sink.taken c.deliver.new.sink) x) c.deref.ensures.value c.in_ok-deliver.ensures.ok in
    (w.0, these, subst delivered text (gathered-end _ _ _ _ _ (gathered-more _ _ _ _ _ _ begun c.in_ok-append_html-2.ensures) last))
