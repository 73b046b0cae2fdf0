-- The entry that stands at a place (own).
use Rattle.std.specs.Prelude.{◌≡◌, Option, Some, None, true, is_some}
use mathlib.Core.Path.{sym}
use mathlib.Core.Bool.{true≢false}
use Rattle.nmvs_rules.specs.declared.entry.Entry.{Entry}

-- the entry that was found, if one was
abbrev pub entry_in : (found : Option Entry) → is_some found ≡ true → Entry
entry_in None there = absurd (true≢false (sym there))
entry_in (Some e) there = e
