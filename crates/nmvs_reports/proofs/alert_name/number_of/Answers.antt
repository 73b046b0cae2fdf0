use Rattle.std.proofs.Common.{◌≡◌, ◌∙◌, ℕ, true, false, decimal, sym, ap}
use Rattle.std.proofs.lemmas.Fmt.{parse-decimal}
use Rattle.std.proofs.lemmas.Slice.Eq.{bytes_eq-Decides}
use Rattle.nmvs_reports.proofs.alert_name.number_of.Goals as goal

pub returns-in_default-clause-none : goal.returns-in_default-clause-none
returns-in_default-clause-none c n small is = c.in_default.not-Ok n (parse-decimal 64 n c.args.digits.now c.parse.result small small is c.parse.ensures.value.0)

pub returns-else-eq-clause-none : goal.returns-else-eq-clause-none
returns-else-eq-clause-none c n small is =
    let read = parse-decimal 64 n c.args.digits.now c.parse.result small small is c.parse.ensures.value.0 in
    let same : c.in-Ok.number ≡ n = (let both = sym c.in-Ok.is ∙ read in cc both) in
    let equal : c.format.result.now ≡ c.args.digits.now = c.format.ensures.text ∙ ap decimal same ∙ sym is in
    let other : false ≡ true = c.if-eq.ensures ∙ (bytes_eq-Decides c.format.result.now c.args.digits.now).1 equal in
    cc other
