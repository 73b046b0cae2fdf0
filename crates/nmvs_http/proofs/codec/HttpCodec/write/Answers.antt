use Rattle.std.proofs.Common.{drop}
use Rattle.nmvs_http.proofs.CodecSteps.{is_replied}
use Rattle.nmvs_http.proofs.codec.HttpCodec.write.Goals as goal

pub invariant_of-self : goal.invariant_of-self
invariant_of-self c =
    let is = c.self.inside in (c.self.invariant.0, is_replied (record { stage = is.stage; stream = is.requests; hand = is.hand; given = is.given.numbers; replies = is.replies.numbers; gathered = is.gathered.items; sent = is.sent.numbers; unsent = drop is.gone is.told.bytes.items }) c.extended.result.numbers c.extend_from_slice.new.self.items c.args.replies.now c.extended.ensures c.in-Ok.ensures.items c.self.invariant.1)
