use Rattle.std.proofs.Common.{refl, false, ◌+◌, ◌<◌, ◌≤◌, ◌^◌, ◌≡◌, ◌∙◌, sym, ap, unwrap_or, subst}
use Rattle.std.specs.Option.{option_map_or, ForSome}
use Rattle.nmvs_rules.specs.declared.facts.BatchRecord.{BatchRecord}
use Rattle.nmvs_tables.specs.Batches.{same_batch, batch_in, count_in, own_before, no_packs, NotesBatch}
use Rattle.nmvs_tables.proofs.BatchTableLemmas.{same_batch-refl, changed-by, get_batch-changed, get_batch-others, keys-changed, first-found}
use Rattle.nmvs_tables.proofs.batches.note.Goals as goal

pub record_after-requires-clause-from : goal.record_after-requires-clause-from
record_after-requires-clause-from g c =
    let key = c.in-Some.key in
    let Counted : BatchRecord → Type 0 = λ r. ForSome (own_before c.args.known.now) (λ own. 1 ≤ count_in r.counts own) in
    let changed = changed-by c.args.entry.now c.args.known.now key c.is_accepted.result c.is_accepted.ensures c.if-not-is_accepted.false (sym c.in-Some.ensures) in
    subst Counted (sym (c.unwrap_or-old.ensures ∙ ap (λ o. unwrap_or o no_packs) c.find_near-index.ensures.value))
    (c.requires.from key (ap (λ o. option_map_or (same_batch key) o false) changed ∙ same_batch-refl key))

pub record_after-requires-clause-to : goal.record_after-requires-clause-to
record_after-requires-clause-to g c = λ own _.
    let Fits : BatchRecord → Type 0 = λ r. count_in r.counts own + 1 < 2 ^ 64 in
    subst Fits (sym (c.unwrap_or-old.ensures ∙ ap (λ o. unwrap_or o no_packs) c.find_near-index.ensures.value)) (c.requires.to c.in-Some.key own)

pub returns-clause-changed : goal.returns-clause-changed
returns-clause-changed g c =
    let P : BatchRecord → Type 0 = λ r. NotesBatch c.args.entry.now.put.question c.args.known.now r c.record_after.result in
    let old : c.unwrap_or-old.result ≡ batch_in c.args.batches.now c.in-Some.key = c.unwrap_or-old.ensures ∙ ap (λ o. unwrap_or o no_packs) c.find_near-index.ensures.value in
    get_batch-changed c.args.batches.now c.write.new.table c.in-Some.key c.record_after.result c.args.entry.now c.args.known.now
    (changed-by c.args.entry.now c.args.known.now c.in-Some.key c.is_accepted.result c.is_accepted.ensures c.if-not-is_accepted.false (sym c.in-Some.ensures))
    c.write.ensures.updates (subst P old c.record_after.ensures)

pub returns-clause-others : goal.returns-clause-others
returns-clause-others g c =
    get_batch-others c.args.batches.now c.write.new.table c.in-Some.key c.record_after.result c.args.entry.now c.args.known.now
    (changed-by c.args.entry.now c.args.known.now c.in-Some.key c.is_accepted.result c.is_accepted.ensures c.if-not-is_accepted.false (sym c.in-Some.ensures))
    c.write.ensures.updates

pub returns-clause-order : goal.returns-clause-order
returns-clause-order g c =
    keys-changed c.args.batches.now c.write.new.table c.in-Some.key c.record_after.result _
    (changed-by c.args.entry.now c.args.known.now c.in-Some.key c.is_accepted.result c.is_accepted.ensures c.if-not-is_accepted.false (sym c.in-Some.ensures))
    c.write.ensures.entries

pub returns-clause-first : goal.returns-clause-first
returns-clause-first g c =
    first-found c.args.batches.now c.in-Some.key c.find_near-index.result.0 c.is_none.result _ _
    (changed-by c.args.entry.now c.args.known.now c.in-Some.key c.is_accepted.result c.is_accepted.ensures c.if-not-is_accepted.false (sym c.in-Some.ensures))
    c.find_near-index.ensures.index c.is_none.ensures
    (λ h. c.then_some.ensures ∙ rw h refl) (λ h. c.then_some.ensures ∙ rw h refl)
