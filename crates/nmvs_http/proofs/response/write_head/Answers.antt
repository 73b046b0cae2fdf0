use Rattle.std.proofs.Common.{◌≡◌, ◌∙◌, ◌++◌, List, ℕ, codes, subst}
use Rattle.std.specs.Prelude.{OnOk, OnErr}
use Rattle.nmvs_stream.specs.Delivery.{Writes, DeliversPart}
use Rattle.nmvs_protocol.proofs.SessionTelling.{on_err, both_ok, both_err, part_of}
use Rattle.nmvs_http.specs.Responses.{head_text}
use Rattle.nmvs_http.proofs.response.write_head.Goals as goal

pub returns-in_err-write_both-clause-err : goal.returns-in_err-write_both-clause-err
returns-in_err-write_both-clause-err g c =
    let taken = g.W.Sink.taken in
    let first = c.args.front.now ++ c.connection_of.result.now in
    let second = c.as_bytes-digits.result.now ++ codes "\r\n\r\n" in
    let whole : first ++ second ≡ head_text c.args.front.now c.args.stays c.args.count =
    λ i. (c.args.front.now ++ c.connection_of.ensures i) ++ ((c.as_bytes-digits.ensures.value ∙ c.format.ensures.text) i ++ codes "\r\n\r\n") in
    let old = taken c.args.sink.now in
    let new = taken c.write_both.new.sink in
    on_err c.from_residual.result (subst (λ (t : List ℕ). DeliversPart old new t) whole (part_of old new first second c.in_err-write_both.ensures.err))

pub returns : goal.returns
returns g c =
    let taken = g.W.Sink.taken in
    let first = c.args.front.now ++ c.connection_of.result.now in
    let second = c.as_bytes-digits.result.now ++ codes "\r\n\r\n" in
    let whole : first ++ second ≡ head_text c.args.front.now c.args.stays c.args.count =
    λ i. (c.args.front.now ++ c.connection_of.ensures i) ++ ((c.as_bytes-digits.ensures.value ∙ c.format.ensures.text) i ++ codes "\r\n\r\n") in
    let r = c.write_both-2.result in
    let old = taken c.args.sink.now in
    let mid = taken c.write_both.new.sink in
    let new = taken c.write_both-2.new.sink in record {
      ok = subst (λ (t : List ℕ). OnOk r (Writes old new t)) whole (both_ok r old mid new first second c.in_ok-write_both.ensures.ok c.write_both-2.ensures.ok);
      err = subst (λ (t : List ℕ). OnErr r (DeliversPart old new t)) whole (both_err r old mid new first second c.in_ok-write_both.ensures.ok c.write_both-2.ensures.err);
    }
