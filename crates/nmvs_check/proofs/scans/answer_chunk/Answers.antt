use Rattle.std.proofs.Common.{ℕ, List, refl, subst}
use Rattle.nmvs_stream.specs.Delivery.{Delivers}
use Rattle.nmvs_check.proofs.ScanLemmas.{written}
use Rattle.nmvs_check.proofs.scans.answer_chunk.Goals as goal

pub returns-clause-answered : goal.returns-clause-answered
returns-clause-answered g c start input is so_far =
    let sink = g.W.Sink.taken c.args.sink.now in
    let sink' = g.W.Sink.taken c.deliver.new.sink in
    let taken = c.in_ok-take_chunk.ensures.answered start sink input is so_far in
    let delivers = subst (λ (t : List ℕ). Delivers sink sink' t) c.deref.ensures.value c.in_ok-deliver.ensures.ok in
    (taken.0, written (record { count = c.take_chunk.new.rows.count; all_read = c.take_chunk.new.rows.all_read; block = c.clear.new.self }) sink' taken.1 delivers refl refl c.clear.ensures.items)
