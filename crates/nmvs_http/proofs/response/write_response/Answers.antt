use Rattle.std.proofs.Common.{◌≡◌, ◌++◌, [], List, ℕ, length, subst, ap}
use Rattle.std.specs.Prelude.{OnOk, OnErr, if◌then◌else◌}
use Rattle.nmvs_stream.specs.Delivery.{Writes, DeliversPart}
use Rattle.nmvs_protocol.proofs.SessionTelling.{on_err, both_ok, both_err, part_of}
use Rattle.nmvs_http.specs.Responses.{composed_text, head_text}
use Rattle.nmvs_http.proofs.response.write_response.Goals as goal

pub returns-in_err-write_head-clause-err : goal.returns-in_err-write_head-clause-err
returns-in_err-write_head-clause-err g c =
    let taken = g.W.Sink.taken in
    let sent = if c.args.is_head then [] else c.args.body.now in
    on_err c.from_residual.result (part_of (taken c.args.sink.now) (taken c.write_head.new.sink) (head_text c.args.front.now c.args.stays (length c.args.body.now)) sent c.in_err-write_head.ensures.err)

pub returns : goal.returns
returns g c =
    let taken = g.W.Sink.taken in
    let head = head_text c.args.front.now c.args.stays (length c.args.body.now) in
    let sent = c.sent_of.result.now in
    let whole : head ++ sent ≡ composed_text c.args.front.now c.args.is_head c.args.stays c.args.body.now = ap (λ (t : List ℕ). head ++ t) c.sent_of.ensures in
    let r = c.write_all.result in
    let old = taken c.args.sink.now in
    let mid = taken c.write_head.new.sink in
    let new = taken c.write_all.new.sink in record {
      ok = subst (λ (t : List ℕ). OnOk r (Writes old new t)) whole (both_ok r old mid new head sent c.in_ok-write_head.ensures.ok c.write_all.ensures.ok);
      err = subst (λ (t : List ℕ). OnErr r (DeliversPart old new t)) whole (both_err r old mid new head sent c.in_ok-write_head.ensures.ok c.write_all.ensures.err);
    }
