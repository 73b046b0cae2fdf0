use Rattle.std.proofs.Common.{refl, arith}
use Rattle.nmvs_etcd.proofs.Posting.{posted, not_refused, of_ok, on_ok}
use Rattle.nmvs_etcd.proofs.http.write_request.Goals as goal

pub returns-clause-request : goal.returns-clause-request
returns-clause-request c =
    let first = c.in_ok-write_request in
    let valid = not_refused _ _ _ c.write_request.result first.field-0 first.was c.write_request.ensures.outcome in
    let second = c.in_ok-write_data in
    let data_ok = not_refused _ _ _ c.write_data.result second.field-0 second.was c.write_data.ensures.outcome in
    on_ok c.write_end.result
    (λ v was. posted c.args.procedure _ c.path.result.now _ _ c.args.body.now c.args.client.now refl c.path.ensures (omega arith) c.args.text.now.items _ _ _ _ _ c.requires.empty valid first.ensures.ok first.ensures.next data_ok second.ensures.ok second.ensures.counted (not_refused _ _ _ c.write_end.result v was c.write_end.ensures.outcome) (of_ok c.write_end.result v was c.write_end.ensures.ok))
