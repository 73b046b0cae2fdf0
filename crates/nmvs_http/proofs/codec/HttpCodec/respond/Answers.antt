use Rattle.std.proofs.Common.{◌≡◌, ◌≢◌, true, drop, refl, sym, ap, subst, rules}
use Rattle.nmvs_http.specs.Codecs.{AnswersLines, CodecState}
use Rattle.nmvs_http.specs.declared.codec.CodecStage.TheVariants as stages
use Rattle.nmvs_http.proofs.CodecSteps.{goes_on_told, is_told, tells_within}
use Rattle.nmvs_http.proofs.codec.HttpCodec.respond.Goals as goal

pub invariant_of-self : goal.invariant_of-self
invariant_of-self c =
    let is = c.self.inside in
    let opens : is.stage ≡ stages.Open = search rules in
    let t = c.tell_response-self-inside in
    let sound : t.result ≢ stages.Lost = search rules in
    let may : c.may_respond.result ≡ true = search rules in
    let answers = subst (λ (s : CodecState). AnswersLines s.given s.replies c.args.ended) (sym c.self.view_is) c.requires in (
      tells_within is.gone is.told.bytes.items t.new.told.bytes.items _ _ _ c.self.invariant.0 t.ensures,
      is_told (record { stage = is.stage; stream = is.requests; hand = is.hand; given = is.given.numbers; replies = is.replies.numbers; gathered = is.gathered.items; sent = is.sent.numbers; unsent = drop is.gone is.told.bytes.items }) c.in-Some.hand c.args.ended c.stays_behind-stays.result t.result is.gone is.told.bytes.items t.new.told.bytes.items c.as_slice-replies.result.now c.new.result.items opens c.in-Some.is refl c.self.invariant.0
          answers (c.may_respond.ensures may) c.stays_behind-stays.ensures c.as_slice-replies.ensures.value t.ensures sound c.new.ensures.items c.self.invariant.1,
    )

pub returns-then-self-ne2-clause-goes_on : goal.returns-then-self-ne2-clause-goes_on
returns-then-self-ne2-clause-goes_on c =
    let is = c.self.inside in
    let view = c.self.view_is in
    let t = c.tell_response-self-inside in
    goes_on_told _ _ is.gone is.told.bytes.items t.new.told.bytes.items _ _ _ c.self.invariant.0 (ap (λ t. t.stream.fed) view) (ap (λ t. t.replies) view) (ap (λ t. t.sent) view) (sym (ap (λ t. t.unsent) view)) refl t.ensures
