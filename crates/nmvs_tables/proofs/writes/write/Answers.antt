use Rattle.std.proofs.Common.{◌∙◌, sym, ap}
use Rattle.std.specs.Map.{lookup}
use Rattle.nmvs_tables.proofs.EntryLemmas.{lookup-insert_entry, set_value_at-found}
use Rattle.nmvs_tables.proofs.writes.write.Goals as goal

pub returns-in-Some-clause-updates : goal.returns-in-Some-clause-updates
returns-in-Some-clause-updates g c = λ q.
    let es = c.args.table.now.entries in
    ap (lookup (g.K.PartialEq.eq q)) (set_value_at-found g.K.PartialEq.eq c.args.key c.args.value es c.in-Some.index (sym c.in-Some.is ∙ c.requires.found))
    ∙ lookup-insert_entry g.met.K.Eq.laws c.args.key c.args.value q es

pub returns-in-Some-clause-entries : goal.returns-in-Some-clause-entries
returns-in-Some-clause-entries g c =
    set_value_at-found g.K.PartialEq.eq c.args.key c.args.value c.args.table.now.entries c.in-Some.index (sym c.in-Some.is ∙ c.requires.found)
