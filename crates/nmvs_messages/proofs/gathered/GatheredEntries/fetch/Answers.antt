use Rattle.std.proofs.Common.{◌-◌, ◌+◌, ◌++◌, ◌∙◌, ℕ, List, length, take, drop, ap}
use Rattle.nmvs_line.specs.Export.{export_text}
use Rattle.nmvs_messages.proofs.EntryTexts.{gathered_cut}
use Rattle.nmvs_messages.proofs.gathered.GatheredEntries.fetch.Goals as goal

pub returns-clause-text : goal.returns-clause-text
returns-clause-text g c =
    let is = c.self.inside in
    let count = c.min-count.result in
    let all = c.as_slice.result.now in
    let lines = export_text (take count (take (length all - is.fetched) (drop is.fetched all))) in
    let rest = export_text (drop (is.fetched + count) is.entries.items) in
    ap (λ (t : List ℕ). t ++ rest) (c.push_lines.ensures.items ∙ ap (λ (t : List ℕ). t ++ lines) c.clear.ensures.items)
    ∙ gathered_cut is.fetched count is.entries.items all c.as_slice.ensures.value ∙ ap export_text c.self.view_is
