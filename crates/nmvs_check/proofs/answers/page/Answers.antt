use Rattle.std.proofs.Common.{◌∙◌, List, ℕ, string_bytes, subst}
use Rattle.std.proofs.lemmas.Result.{on_ok_weaker}
use Rattle.nmvs_identifier.specs.ProductCode.{ProductCode}
use Rattle.nmvs_rules.specs.declared.entry.Entry.{Entry}
use Rattle.nmvs_stream.specs.Delivery.{Delivers}
use Rattle.nmvs_inspect.specs.Groups.{AreSingle}
use Rattle.nmvs_inspect.specs.Page.{alerts, flagged_alerts, page_text}
use Rattle.nmvs_inspect.specs.Premises.{ArePremises}
use Rattle.nmvs_inspect.specs.Rows.{Dated, AreTaken}
use Rattle.nmvs_check.specs.Answers.{codes_named}
use Rattle.nmvs_check.proofs.answers.page.Goals as goal

-- the trail of the shard is that of the import
pub returns : goal.returns
returns g c =
    let old = g.W.Sink.taken c.args.sink.now in
    let new = g.W.Sink.taken c.write_page.new.sink in
    let head = string_bytes c.in_ok-head.head in
    let shows : List Entry → List ProductCode → List ℕ → Type 0 = λ t codes head. (each : List _) × AreSingle alerts t each
    × ((most : List _) × ArePremises flagged_alerts t most
    × ((ds : List Dated) × AreTaken flagged_alerts t ds × Delivers old new (page_text head t codes each most ds))) in
    on_ok_weaker c.write_page.result
    (λ w.
    let under = subst (λ (h : List ℕ). shows c.shard-shard.result.now c.as_slice.result.now h) c.deref.ensures w in
    let named = subst (λ (cs : List ProductCode). shows c.shard-shard.result.now cs head) (c.as_slice.ensures.keys ∙ c.in_ok-codes.ensures) under in
    (head, c.in_ok-head.ensures, subst (λ (t : List Entry). shows t (codes_named t) head) c.shard-shard.ensures named))
    c.write_page.ensures
