use Rattle.std.proofs.Common.{◌≡◌, ◌∙◌, ◌++◌, ℕ, List, ap, subst}
use Rattle.std.specs.Prelude.{OnOk}
use Rattle.nmvs_alerts.specs.Story.{line_for}
use Rattle.nmvs_alerts.proofs.JsonLemmas.{all-led, onward}
use Rattle.nmvs_alerts.proofs.story.append_lines.Goals as goal

pub returns : goal.returns
returns c =
    subst (λ (text : List ℕ). OnOk c.append_other_lines.result (c.append_other_lines.new.block.items ≡ text))
    (onward c.args.block.now.items _ c.in_ok-append_line.ensures _
    ∙ ap (λ (text : List ℕ). c.args.block.now.items ++ text) (all-led (line_for c.args.author.now) c.args.seen.now c.first-item.result c.in-len1-up.len_at_least c.first-item.is))
    c.append_other_lines.ensures
