use Rattle.std.proofs.Common.{◌∙◌, ◌++◌, drop, refl, ap}
use Rattle.nmvs_http.specs.Codecs.{bytes_given}
use Rattle.nmvs_http.proofs.CodecSteps.{decodes, goes_on_still, is_read}
use Rattle.nmvs_http.proofs.codec.HttpCodec.give.Goals as goal

pub invariant_of-self : goal.invariant_of-self
invariant_of-self c =
    let is = c.self.inside in
    (c.self.invariant.0, is_read (record { stage = is.stage; stream = is.requests; hand = is.hand; given = is.given.numbers; replies = is.replies.numbers; gathered = is.gathered.items; sent = is.sent.numbers; unsent = drop is.gone is.told.bytes.items }) is.hand c.give_of-decoded.new.hand c.given_behind.result.numbers (bytes_given c.give_of-decoded.result c.give_of-decoded.new.buffer) refl c.give_of-decoded.ensures.gives c.given_behind.ensures c.self.invariant.1)

pub returns : goal.returns
returns c =
    let is = c.self.inside in
    let view = c.self.view_is in
    decodes _ _ _ _ c.give_of-decoded.ensures.fits (goes_on_still _ _ (ap (λ t. t.stream.fed) view) (ap (λ t. t.replies) view) (ap (λ t. t.sent) view) (ap (λ t. t.unsent) view))
    (c.given_behind.ensures ∙ ap (λ t. t.given ++ bytes_given c.give_of-decoded.result c.give_of-decoded.new.buffer) view)
