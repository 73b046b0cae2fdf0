use Rattle.std.proofs.Common.{◌∙◌, ◌++◌, ℕ, List, sym, ap, append_assoc}
use Rattle.http1.specs.Decoder.{decoder_for}
use Rattle.nmvs_etcd.specs.Exchanges.{limits}
use Rattle.nmvs_etcd.proofs.Hearing.{answered}
use Rattle.nmvs_etcd.proofs.http.read_answer.Goals as goal

pub returns : goal.returns
returns g c =
    let head = c.in_ok-head.ensures.head in
    let after = c.in_ok-read_body.ensures.heard in
    let old = g.C.Connection.heard c.args.connection.now in (
      c.in_ok-read_body.ensures.sent ∙ c.in_ok-head.ensures.sent,
      record {
        answer = c.read_body.new.heard.items;
        came = after.came ∙ ap (λ (t : List ℕ). t ++ after.piece) c.in_ok-head.ensures.heard ∙ append_assoc old c.read_head.new.heard.items after.piece ∙ ap (λ (t : List ℕ). old ++ t) (sym after.added);
        answers = answered c.read_head.new.heard.items c.read_body.new.heard.items after.piece c.read_body.new.body.items _ _ c.read_head.new.client head after.added (c.in_ok-read_body.ensures.body (decoder_for limits head.framing) head.reading);
      },
    )
