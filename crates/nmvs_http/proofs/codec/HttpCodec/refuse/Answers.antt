use Rattle.std.proofs.Common.{◌≡◌, drop, refl, sym, ap, rules}
use Rattle.nmvs_http.specs.declared.codec.CodecStage.TheVariants as stages
use Rattle.nmvs_http.proofs.CodecSteps.{goes_on_told, is_refused, tells_within}
use Rattle.nmvs_http.proofs.codec.HttpCodec.refuse.Goals as goal

pub invariant_of-self : goal.invariant_of-self
invariant_of-self c =
    let is = c.self.inside in
    let opens : is.stage ≡ stages.Open = search rules in
    let t = c.tell_refusal-self-inside in (
      tells_within is.gone is.told.bytes.items t.new.told.bytes.items _ _ _ c.self.invariant.0 t.ensures,
      is_refused (record { stage = is.stage; stream = is.requests; hand = is.hand; given = is.given.numbers; replies = is.replies.numbers; gathered = is.gathered.items; sent = is.sent.numbers; unsent = drop is.gone is.told.bytes.items }) c.args.fault t.result is.gone is.told.bytes.items t.new.told.bytes.items opens refl c.self.invariant.0 t.ensures c.self.invariant.1,
    )

pub returns-then-self-eq0-clause-goes_on : goal.returns-then-self-eq0-clause-goes_on
returns-then-self-eq0-clause-goes_on c =
    let is = c.self.inside in
    let view = c.self.view_is in
    let t = c.tell_refusal-self-inside in
    goes_on_told _ _ is.gone is.told.bytes.items t.new.told.bytes.items _ _ _ c.self.invariant.0 (ap (λ t. t.stream.fed) view) (ap (λ t. t.replies) view) (ap (λ t. t.sent) view) (sym (ap (λ t. t.unsent) view)) refl t.ensures
