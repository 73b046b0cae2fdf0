use Rattle.std.proofs.Common.{List, subst}
use Rattle.std.proofs.lemmas.Result.{IfOk-at_ok, IfOk-weaker, IfErr-weaker}
use Rattle.nmvs_rules.specs.declared.entry.Entry.{Entry}
use Rattle.nmvs_record.specs.Import.{Imports}
use Rattle.nmvs_check.specs.Comparison.{Tells}
use Rattle.nmvs_check.proofs.comparison.compare.Goals as goal

-- the old export was imported, and its trail is the shard's
pub returns-clause-told : goal.returns-clause-told
returns-clause-told g c =
    let before = IfOk-at_ok (Imports (g.R.Source.told c.args.old.now) (g.R.Source.told c.examine-before.new.source)) c.in-Ok.is c.examine-before.ensures.ok in
    IfOk-weaker c.compare_with.result _ _
    (λ goes_on told.
    let these : List Entry → Type 0 =
    λ t. Tells t told.0.trail goes_on (g.W.Sink.taken c.args.sink.now) (g.W.Sink.taken c.compare_with.new.sink) in
    (c.in-Ok.before, before, told.0, told.1, subst these c.shard.ensures told.2))
    c.compare_with.ensures.told

-- the old export was lawful
pub returns-clause-old_found : goal.returns-clause-old_found
returns-clause-old_found g c = IfErr-weaker c.compare_with.result _ _ (λ _ other finding same. absurd (other finding same)) c.compare_with.ensures.old_found
