use Rattle.std.proofs.Common.{◌≡◌, ◌∙◌, ◌++◌, ◌∷◌, ◌-◌, ℕ, List, ap, drop, length, subst, take}
use Rattle.std.specs.Prelude.{OnOk}
use Rattle.nmvs_alerts.specs.declared.flagged.Flagged.{Flagged}
use Rattle.nmvs_alerts.specs.Json.{joined}
use Rattle.nmvs_alerts.specs.Pages.{row_of}
use Rattle.nmvs_alerts.proofs.JsonLemmas.{hundred, onward}
use Rattle.nmvs_alerts.proofs.pages.append_rows.Goals as goal

pub returns : goal.returns
returns g c =
    let others = take (length c.args.found.now - 1) (drop 1 c.args.found.now) in
    let these : c.first-item.result ∷ take c.min-shown.result others ≡ take 100 c.args.found.now = hundred c.args.found.now c.first-item.result c.min-shown.result c.in-len1-up.len_at_least c.first-item.is c.min-shown.ensures in
    subst (λ (text : List ℕ). OnOk c.append_others.result (c.append_others.new.block.items ≡ text))
    (onward c.args.block.now.items _ c.in_ok-append_whole_row.ensures _
    ∙ ap (λ (fs : List Flagged). c.args.block.now.items ++ joined (row_of c.args.shard.now c.args.with_house) fs) these)
    c.append_others.ensures
