-- The names of alerts (own): a product code and the number of the alert on it, as 09506000134352-17.
use Rattle.std.specs.Prelude.{ℕ, ◌≡◌, ◌≤◌, ◌==◌, Bool, false, ◌&&◌, List, ◌++◌, codes, count_by, decimal, find, Some}
use Rattle.nmvs_rules.specs.declared.entry.Entry.{Entry}
use Rattle.nmvs_rules.specs.declared.reply.Reply.{Reply}
use Rattle.nmvs_rules.specs.declared.reply.Reply.TheVariants as reply
use Rattle.nmvs_rules.specs.Rules.{IsLawful}
use Rattle.nmvs_rules.specs.Trail.{has_code}
use Rattle.nmvs_reports.specs.declared.alert_name.AlertName.{AlertName}

-- the text of a name: the product code, a hyphen, and the number
abbrev pub alert_text : AlertName → List ℕ
alert_text name = name.code.bytes ++ (codes "-" ++ decimal name.number)

-- whether a reply is the alert of a number
abbrev pub is_numbered : ℕ → Reply → Bool
is_numbered n (reply.Alert _ _ m) = m == n
is_numbered n _ = false

-- whether an entry is the alert of a name
abbrev pub is_named : AlertName → Entry → Bool
is_named name e = has_code name.code e && is_numbered name.number e.reply

-- the law that at most one entry of a lawful trail has a name, and that a later trail has the same one
abbrev pub NamesOnce : Type 0
NamesOnce =
    (t later : List Entry) (name : AlertName) (e : Entry) → IsLawful (t ++ later) → find (is_named name) t ≡ Some e
    → (count_by (is_named name) (t ++ later) ≤ 1) × (find (is_named name) (t ++ later) ≡ Some e)
