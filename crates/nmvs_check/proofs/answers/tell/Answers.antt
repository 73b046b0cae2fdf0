use Rattle.std.proofs.Common.{List, sym, subst}
use Rattle.std.proofs.lemmas.Result.{on_ok_weaker}
use Rattle.nmvs_rules.specs.declared.entry.Entry.{Entry}
use Rattle.nmvs_stream.specs.Delivery.{Delivers}
use Rattle.nmvs_inspect.specs.Packs.{Standing, AreOfBatch, packs_text}
use Rattle.nmvs_check.specs.Answers.{Tells}
use Rattle.nmvs_check.specs.declared.request.Request.{Request}
use Rattle.nmvs_check.proofs.answers.tell.Goals as goal

-- the trail of the shard is that of the import
pub returns-in-Packs : goal.returns-in-Packs
returns-in-Packs g c =
    let old = g.W.Sink.taken c.args.sink.now in
    let new = g.W.Sink.taken c.write_packs.new.sink in
    let these : List Entry → Type 0 =
    λ t. (ps : List (Standing t)) × AreOfBatch c.in-Packs.code c.in-Packs.batch t ps × Delivers old new (packs_text c.in-Packs.form t ps) in
    let told : Request → Type 0 = λ r. Tells c.args.importer.now r old new in
    on_ok_weaker c.write_packs.result (λ h. subst told (sym c.in-Packs.is) (subst these c.shard-shard.ensures h)) c.write_packs.ensures
