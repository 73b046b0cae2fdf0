use Rattle.std.proofs.Common.{◌∙◌, ◌++◌, ap, sym, List, append-nil}
use Rattle.nmvs_rules.specs.declared.facts.Facts.{Facts}
use Rattle.nmvs_alerts.specs.declared.flagged.Flagged.{Flagged}
use Rattle.nmvs_alerts.specs.Alerts.{listed}
use Rattle.nmvs_alerts.proofs.AlertLemmas.{last-is}
use Rattle.nmvs_alerts.proofs.flagged.note_last.Goals as goal

pub returns-in-Some : goal.returns-in-Some
returns-in-Some g c before e is =
    c.push_reserved.ensures.items
    ∙ ap (λ (fs : List Flagged). c.args.flagged.now.items ++ fs)
    (ap listed (sym c.in-Some.is) ∙ c.raised_by.ensures
    ∙ last-is before c.args.shard.now e c.unwrap-entry.result c.args.place c.facts-known.result.pack is c.requires.last
    (sym c.entry_at.ensures ∙ c.unwrap-entry.ensures) (ap (λ (f : Facts). f.pack) (c.facts-known.ensures.facts c.args.shard.now c.tables.ensures.agree)))

pub returns-in_default : goal.returns-in_default
returns-in_default g c before e is =
    sym (append-nil c.args.flagged.now.items)
    ∙ ap (λ (fs : List Flagged). c.args.flagged.now.items ++ fs)
    (ap listed (sym c.in_default.is) ∙ c.raised_by.ensures
    ∙ last-is before c.args.shard.now e c.unwrap-entry.result c.args.place c.facts-known.result.pack is c.requires.last
    (sym c.entry_at.ensures ∙ c.unwrap-entry.ensures) (ap (λ (f : Facts). f.pack) (c.facts-known.ensures.facts c.args.shard.now c.tables.ensures.agree)))
