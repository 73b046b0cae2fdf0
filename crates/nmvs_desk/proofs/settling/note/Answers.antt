use Rattle.std.proofs.Common.{refl, sym, ap, arith, length}
use Rattle.std.proofs.lemmas.Option.{slice_get_read}
use Rattle.nmvs_desk.proofs.Noting.{notes_more, row_within, read_row}
use Rattle.nmvs_desk.proofs.settling.note.Goals as goal

pub index_mut-requires : goal.index_mut-requires
index_mut-requires g c =
    let l = c.loop-receipt in
    let receipts = c.args.receipts.now in
    let r = c.index-receipts-receipt.result in
    let is = slice_get_read receipts (length receipts) l.receipt r refl (omega arith) c.index-receipts-receipt.is in
    let within = row_within c.args.owners.now.items r.shard r.place (c.requires.places l.receipt r is) in
    omega (arith, within, l.invariant.shape.lists, l.owners.ok.0)

pub note-requires : goal.note-requires
note-requires g c =
    let l = c.loop-receipt in
    let receipts = c.args.receipts.now in
    let r = c.index-receipts-receipt.result in
    let is = slice_get_read receipts (length receipts) l.receipt r refl (omega arith) c.index-receipts-receipt.is in
    let place = c.requires.places l.receipt r is in
    let within = row_within c.args.owners.now.items r.shard r.place place in
    let line = read_row l.owners.items r.shard c.index_mut.result.now (omega (arith, within, l.invariant.shape.lists)) c.index_mut.ensures.value in
    omega (arith, place, l.invariant.shape.rows r.shard, ap length line)

pub loop-receipt-preserved : goal.loop-receipt-preserved
loop-receipt-preserved g c =
    let l = c.loop-receipt in
    let receipts = c.args.receipts.now in
    let r = c.index-receipts-receipt.result in
    let is = slice_get_read receipts (length receipts) l.receipt r refl (omega arith) c.index-receipts-receipt.is in
    let place = c.requires.places l.receipt r is in
    let within = row_within c.args.owners.now.items r.shard r.place place in
    let line = read_row l.owners.items r.shard c.index_mut.result.now (omega (arith, within, l.invariant.shape.lists)) c.index_mut.ensures.value in
    rw (c.note.ensures, sym line) (notes_more c.args.clerk receipts l.receipt r c.args.owners.now.items l.owners.items l.invariant c.requires.rising is place)
