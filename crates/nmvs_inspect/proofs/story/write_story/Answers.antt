use Rattle.std.proofs.Common.{◌∙◌, ◌++◌, List, ℕ, ap, subst}
use Rattle.nmvs_rules.specs.declared.reply.Reply.{Reply}
use Rattle.nmvs_stream.specs.Delivery.{Delivers}
use Rattle.nmvs_inspect.specs.Rows.{AreTaken, header, list_text, row}
use Rattle.nmvs_inspect.specs.Story.{status_cells}
use Rattle.nmvs_inspect.specs.declared.filter.Filter.{Filter}
use Rattle.nmvs_inspect.proofs.GatheringLemmas.{gathered-begin, gathered-more, gathered-end}
use Rattle.nmvs_inspect.proofs.story.write_story.Goals as goal

pub returns : goal.returns
returns g c =
    let w = c.in_ok-write_selected.ensures in
    let first = header c.args.form in
    let begun = w.2 (g.W.Sink.taken c.args.sink.now) first (gathered-begin _ _ _ (c.in_ok-append_header.ensures ∙ ap (λ (x : List ℕ). x ++ first) c.new-block.ensures.items)) in
    let status =
    c.in_ok-append_status.ensures
    ∙ ap (λ (r : Reply). c.write_selected.new.block.items ++ row c.args.form (status_cells c.args.form c.args.pack.now r)) c.status_of-status.ensures in
    let last = subst (λ (x : List ℕ). Delivers (g.W.Sink.taken c.write_selected.new.sink) (g.W.Sink.taken c.deliver.new.sink) x) c.deref.ensures.value c.in_ok-deliver.ensures.ok in (
      w.0,
      subst (λ (f : Filter). AreTaken f c.args.shard.now w.0) c.story_of-filter.ensures w.1,
      gathered-end _ _ _ _ _ (gathered-more _ _ _ _ _ _ begun status) last,
    )
