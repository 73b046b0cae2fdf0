use Rattle.std.proofs.Common.{◌≡◌, ◌∙◌, ◌++◌, [], refl, ap, arith}
use Rattle.nmvs_http.proofs.CodecSteps.{is_new}
use Rattle.nmvs_http.proofs.codec.HttpCodec.new.Goals as goal

pub invariant_of-result : goal.invariant_of-result
invariant_of-result c =
    let none : c.new-4.result.bytes.items ≡ [] = ap (λ v. v.items) c.new-4.ensures ∙ c.new-3.ensures.items in
    let told : c.empty-3.result.numbers ++ c.new-4.result.bytes.items ≡ [] = λ i. c.empty-3.ensures i ++ none i in
    (omega arith, is_new _ c.args.direct refl c.new.ensures c.empty.ensures c.empty-2.ensures c.new-2.ensures.items told)
