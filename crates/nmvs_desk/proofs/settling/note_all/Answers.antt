use Rattle.std.proofs.Common.{◌∙◌, List, sym, subst, arith}
use Rattle.nmvs_desk.specs.declared.ask.Receipt.{Receipt}
use Rattle.nmvs_desk.specs.Settlement.{Rises}
use Rattle.nmvs_desk.proofs.Noting.{noted_more, have_room, read_row}
use Rattle.nmvs_desk.proofs.settling.note_all.Goals as goal

pub note-requires-clause-rising : goal.note-requires-clause-rising
note-requires-clause-rising g c =
    let l = c.loop-clerk in
    let lists = c.args.receipts.now.items in
    let line = read_row lists l.clerk c.index.result.now (omega (arith, c.args.receipts.now.ok.0)) c.index.ensures ∙ sym c.receipts.ensures in
    subst (λ (z : List Receipt). Rises z) line (c.requires.rising l.clerk)

pub note-requires-clause-places : goal.note-requires-clause-places
note-requires-clause-places g c =
    let l = c.loop-clerk in
    let lists = c.args.receipts.now.items in
    let line = read_row lists l.clerk c.index.result.now (omega (arith, c.args.receipts.now.ok.0)) c.index.ensures ∙ sym c.receipts.ensures in
    have_room lists l.clerk c.receipts.result.now c.args.owners.now.items l.owners.items l.invariant c.requires.places line

pub loop-clerk-preserved : goal.loop-clerk-preserved
loop-clerk-preserved g c =
    let l = c.loop-clerk in
    let lists = c.args.receipts.now.items in
    let line = read_row lists l.clerk c.index.result.now (omega (arith, c.args.receipts.now.ok.0)) c.index.ensures ∙ sym c.receipts.ensures in
    noted_more lists l.clerk c.receipts.result.now c.args.owners.now.items l.owners.items c.note.new.owners.items l.invariant c.requires.apart line c.note.ensures
