use Rattle.std.proofs.Common.{◌≡◌, ◌∙◌, ℕ, List, subst}
use Rattle.std.specs.Prelude.{OnOk}
use Rattle.nmvs_alerts.specs.One.{may_text}
use Rattle.nmvs_alerts.proofs.JsonLemmas.{onward}
use Rattle.nmvs_alerts.proofs.one.append_may.Goals as goal

pub returns : goal.returns
unfolding may_text
returns c =
    subst (λ (text : List ℕ). OnOk c.append-3.result (c.append-3.new.block.items ≡ text))
    (onward c.append_behind-3.new.block.items _ c.in_ok-append_behind-4.ensures _
    ∙ onward c.append_behind-2.new.block.items _ c.in_ok-append_behind-3.ensures _
    ∙ onward c.append_behind.new.block.items _ c.in_ok-append_behind-2.ensures _
    ∙ onward c.append-2.new.block.items _ c.in_ok-append_behind.ensures _
    ∙ onward c.append_before-2.new.block.items _ c.in_ok-append-2.ensures _
    ∙ onward c.append_before.new.block.items _ c.in_ok-append_before-2.ensures _
    ∙ onward c.append.new.block.items _ c.in_ok-append_before.ensures _
    ∙ onward c.append_name.new.block.items _ c.in_ok-append.ensures _
    ∙ onward c.args.block.now.items _ c.in_ok-append_name.ensures _)
    c.append-3.ensures
