use Rattle.std.proofs.Common.{◌≡◌, ◌∙◌, ap, decimal, sym}
use Rattle.std.proofs.lemmas.Bool.{false≢true}
use Rattle.std.proofs.lemmas.Slice.Eq.{bytes_eq-Decides}
use Rattle.nmvs_operator.proofs.OrderLemmas.{number_read, number_refused}
use Rattle.nmvs_operator.proofs.order.number_in.Goals as goal

pub returns-in_default-clause-whether : goal.returns-in_default-clause-whether
returns-in_default-clause-whether c =
    number_refused c.args.text.now c.parse.result c.parse.ensures.value.0 (λ n ok. absurd (c.in_default.not-Ok n ok))

pub returns-then-eq-clause-whether : goal.returns-then-eq-clause-whether
returns-then-eq-clause-whether c =
    let equal = (bytes_eq-Decides c.format.result.now c.args.text.now).0 (sym c.if-eq.ensures) in
    number_read c.args.text.now c.parse.result c.in-Ok.number c.parse.ensures.value.0 c.in-Ok.is (sym equal ∙ c.format.ensures.text)

pub returns-else-eq-clause-whether : goal.returns-else-eq-clause-whether
returns-else-eq-clause-whether c =
    number_refused c.args.text.now c.parse.result c.parse.ensures.value.0 (λ n ok is.
    let same : c.in-Ok.number ≡ n = (let both = sym c.in-Ok.is ∙ ok in cc both) in
    let equal : c.format.result.now ≡ c.args.text.now = c.format.ensures.text ∙ ap decimal same ∙ sym is in
    false≢true (c.if-eq.ensures ∙ (bytes_eq-Decides c.format.result.now c.args.text.now).1 equal))
