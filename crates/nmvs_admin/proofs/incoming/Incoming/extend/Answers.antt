use Rattle.nmvs_admin.proofs.IncomingLemmas.{more_sent, on_ok}
use Rattle.nmvs_admin.proofs.incoming.Incoming.extend.Goals as goal

pub returns : goal.returns
returns c sent handed w =
    let grown = on_ok c.try_extend_from_slice.result c.unwrap.result _ c.unwrap.ensures c.try_extend_from_slice.ensures.ok in
    let s = more_sent w.begun c.args.bytes.now (record { lines = w.lines; left = w.left }) grown in
    record { begun = w.begun; kept = w.kept; lines = s.lines; left = s.left }
