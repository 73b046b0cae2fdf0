use Rattle.nmvs_protocol.proofs.SessionTelling.{on_err, both_ok, both_err, part_of}
use Rattle.nmvs_http.proofs.response.write_both.Goals as goal

pub returns-in_err-write_all-clause-err : goal.returns-in_err-write_all-clause-err
returns-in_err-write_all-clause-err g c =
    let taken = g.W.Sink.taken in
    on_err c.from_residual.result (part_of (taken c.args.sink.now) (taken c.write_all.new.sink) c.args.first.now c.args.second.now c.in_err-write_all.ensures.err)

pub returns : goal.returns
returns g c =
    let taken = g.W.Sink.taken in
    let r = c.write_all-2.result in
    let old = taken c.args.sink.now in
    let mid = taken c.write_all.new.sink in
    let new = taken c.write_all-2.new.sink in record {
      ok = both_ok r old mid new c.args.first.now c.args.second.now c.in_ok-write_all.ensures.ok c.write_all-2.ensures.ok;
      err = both_err r old mid new c.args.first.now c.args.second.now c.in_ok-write_all.ensures.ok c.write_all-2.ensures.err;
    }
