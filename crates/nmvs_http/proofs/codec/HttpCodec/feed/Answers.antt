use Rattle.std.proofs.Common.{drop}
use Rattle.nmvs_http.proofs.CodecSteps.{is_fed}
use Rattle.nmvs_http.proofs.codec.HttpCodec.feed.Goals as goal

pub invariant_of-self : goal.invariant_of-self
invariant_of-self c =
    let is = c.self.inside in (c.self.invariant.0, is_fed (record { stage = is.stage; stream = is.requests; hand = is.hand; given = is.given.numbers; replies = is.replies.numbers; gathered = is.gathered.items; sent = is.sent.numbers; unsent = drop is.gone is.told.bytes.items }) c.feed.new.self _ _ c.feed.ensures.fed c.self.invariant.1)
