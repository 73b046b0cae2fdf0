use Rattle.std.proofs.Common.{◌≡◌, ◌∙◌, ℕ, List, subst}
use Rattle.std.specs.Prelude.{OnOk}
use Rattle.nmvs_alerts.specs.Pages.{found_text}
use Rattle.nmvs_alerts.proofs.JsonLemmas.{onward}
use Rattle.nmvs_alerts.proofs.pages.append_found.Goals as goal

pub returns : goal.returns
unfolding found_text
returns g c =
    subst (λ (text : List ℕ). OnOk c.append-3.result (c.append-3.new.block.items ≡ text))
    (onward c.append-2.new.block.items _ c.in_ok-append_next.ensures _
    ∙ onward c.append_rows.new.block.items _ c.in_ok-append-2.ensures _
    ∙ onward c.append.new.block.items _ c.in_ok-append_rows.ensures _
    ∙ onward c.args.block.now.items _ c.in_ok-append.ensures _)
    c.append-3.ensures
