use Rattle.std.proofs.Common.{◌≡◌, ◌∙◌, None, drop, refl, sym, ap, rules}
use Rattle.nmvs_http.specs.declared.codec.CodecStage.TheVariants as stages
use Rattle.nmvs_http.proofs.CodecSteps.{goes_on_told, is_invited, is_taken, is_unreadable, tells_within}
use Rattle.nmvs_http.proofs.codec.HttpCodec.take_request.Goals as goal

pub invariant_of-self-in-Invitation : goal.invariant_of-self-in-Invitation
invariant_of-self-in-Invitation c =
    let is = c.self.inside in
    let opens : is.stage ≡ stages.Open = search rules in
    let t = c.tell_invitation-self-inside in (
      tells_within is.gone is.told.bytes.items t.new.told.bytes.items _ _ _ c.self.invariant.0 t.ensures,
      is_invited (record { stage = is.stage; stream = is.requests; hand = is.hand; given = is.given.numbers; replies = is.replies.numbers; gathered = is.gathered.items; sent = is.sent.numbers; unsent = drop is.gone is.told.bytes.items }) c.next.new.self t.result is.gone is.told.bytes.items t.new.told.bytes.items opens refl c.self.invariant.0 c.in-Invitation.ensures.direct c.in-Invitation.ensures.next t.ensures c.self.invariant.1,
    )

pub invariant_of-self-in-Refused : goal.invariant_of-self-in-Refused
invariant_of-self-in-Refused c =
    let is = c.self.inside in
    let opens : is.stage ≡ stages.Open = search rules in
    let t = c.tell_refusal-self-inside in (
      tells_within is.gone is.told.bytes.items t.new.told.bytes.items _ _ _ c.self.invariant.0 t.ensures,
      is_unreadable (record { stage = is.stage; stream = is.requests; hand = is.hand; given = is.given.numbers; replies = is.replies.numbers; gathered = is.gathered.items; sent = is.sent.numbers; unsent = drop is.gone is.told.bytes.items }) c.next.new.self c.in-Refused.fault t.result is.gone is.told.bytes.items t.new.told.bytes.items opens refl c.self.invariant.0 c.in-Refused.ensures.direct c.in-Refused.ensures.next t.ensures c.self.invariant.1,
    )

pub invariant_of-self-in-Request : goal.invariant_of-self-in-Request
invariant_of-self-in-Request c =
    let is = c.self.inside in
    let opens : is.stage ≡ stages.Open = search rules in
    let none : is.hand ≡ None = search rules in
    let h = c.of.ensures in (
      c.self.invariant.0,
      is_taken (record { stage = is.stage; stream = is.requests; hand = is.hand; given = is.given.numbers; replies = is.replies.numbers; gathered = is.gathered.items; sent = is.sent.numbers; unsent = drop is.gone is.told.bytes.items }) c.next.new.self c.in-Request.asked c.in-Request.stays c.of.result opens none c.in-Request.ensures.direct c.in-Request.ensures.next (ap (λ t. t.asks) h) (ap (λ t. t.head_alone) h) (ap (λ t. t.lines) h) c.self.invariant.1,
    )

pub returns-in-Refused-clause-goes_on : goal.returns-in-Refused-clause-goes_on
returns-in-Refused-clause-goes_on c =
    let is = c.self.inside in
    let view = c.self.view_is in
    let t = c.tell_refusal-self-inside in
    goes_on_told _ _ is.gone is.told.bytes.items t.new.told.bytes.items _ _ _ c.self.invariant.0 (c.in-Refused.ensures.fed ∙ ap (λ t. t.stream.fed) view) (ap (λ t. t.replies) view) (ap (λ t. t.sent) view) (sym (ap (λ t. t.unsent) view)) refl t.ensures
