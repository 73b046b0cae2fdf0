use Rattle.std.proofs.Common.{◌≡◌, ◌∙◌, ◌++◌, ℕ, List, ap, subst}
use Rattle.std.specs.Prelude.{OnOk}
use Rattle.nmvs_alerts.specs.Numbers.{week_text}
use Rattle.nmvs_alerts.proofs.JsonLemmas.{all-joined, onward}
use Rattle.nmvs_alerts.proofs.numbers.append_each_week.Goals as goal

pub returns : goal.returns
returns c =
    subst (λ (text : List ℕ). OnOk c.append_other_weeks.result (c.append_other_weeks.new.block.items ≡ text))
    (onward c.args.block.now.items _ c.in_ok-append_week.ensures _
    ∙ ap (λ (text : List ℕ). c.args.block.now.items ++ text) (all-joined (week_text c.args.counted.now) c.args.weeks.now c.first-item.result c.in-len1-up.len_at_least c.first-item.is))
    c.append_other_weeks.ensures
