use Rattle.std.proofs.Common.{◌≡◌, ◌∙◌, sym, subst, Option, Some, string_bytes}
use Rattle.std.proofs.lemmas.Result.{IfOk-weaker}
use Rattle.nmvs_inspect.specs.Period.{IsLineOf, line, period_of}
use Rattle.nmvs_inspect.specs.declared.period.Period.{Period}
use Rattle.nmvs_inspect.proofs.period.period_line.Goals as goal

pub returns-in-Some : goal.returns-in-Some
returns-in-Some g c =
    let told : period_of c.args.shard.now ≡ Some c.in-Some.period = sym c.period_of.ensures ∙ c.in-Some.is in
    IfOk-weaker c.line.result (λ text. string_bytes text ≡ line c.date_and_time.result c.date_and_time-in-Some.result)
    (λ text. IsLineOf (period_of c.args.shard.now) (string_bytes text))
    (λ text h. subst (λ (o : Option Period). IsLineOf o (string_bytes text)) (sym told) (c.date_and_time.result, c.date_and_time-in-Some.result, c.date_and_time.ensures, c.date_and_time-in-Some.ensures, h))
    c.line.ensures
