use Rattle.std.proofs.Common.{◌≡◌, Some, true, sym, slice_get}
use Rattle.nmvs_tables.proofs.EntryLemmas.{near-index}
use Rattle.nmvs_tables.proofs.writes.find_near.Goals as goal

pub returns-then-eq-clause-index : goal.returns-then-eq-clause-index
returns-then-eq-clause-index g c =
    let eq = g.K.PartialEq.eq in
    let k = c.unwrap.result.0.now in
    let same : eq k c.args.key.now ≡ true = sym {b = eq k c.args.key.now} c.if-eq.ensures in
    let entry = rw c.unwrap.ensures at c.get_index.ensures.entry in
    near-index g.met.K.Eq.laws k c.args.key.now same c.args.table.now.entries c.args.likely c.unwrap.result.1.now c.len.ensures.unique (sym entry)
