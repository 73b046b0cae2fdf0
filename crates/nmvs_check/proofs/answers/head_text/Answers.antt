use Rattle.std.proofs.Common.{◌≡◌, ◌∙◌, ◌++◌, ap, List, ℕ, rules, string_bytes, subst}
use Rattle.std.specs.Prelude.{IfOk}
use Rattle.std.proofs.lemmas.Result.{IfOk-weaker}
use Rattle.nmvs_rules.specs.declared.entry.Entry.{Entry}
use Rattle.nmvs_inspect.specs.Period.{IsLineOf, period_of}
use Rattle.nmvs_check.specs.Answers.{IsHead}
use Rattle.nmvs_check.proofs.answers.head_text.Goals as goal

pub returns : goal.returns
returns c =
    let heading = c.args.heading.now in
    let line = string_bytes c.in_ok-period.period in
    let counts = string_bytes c.in_ok-counts.counts in
    let period = subst (λ (t : List Entry). IsLineOf (period_of t) line) c.shard.ensures c.in_ok-period.ensures in
    let whole : IfOk c.format.result (λ text. string_bytes text ≡ heading ++ (line ++ counts)) = search rules in
    IfOk-weaker c.format.result (λ text. string_bytes text ≡ heading ++ (line ++ counts))
    (λ text. IsHead heading c.args.importer.now (string_bytes text))
    (λ text h. record {
      line = line;
      period = period;
      whole = h ∙ ap (λ (y : List ℕ). heading ++ (line ++ y)) c.in_ok-counts.ensures;
    })
    whole
