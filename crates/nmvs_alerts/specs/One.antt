-- One flagged alert, as JSON (own).
use Rattle.std.specs.Prelude.{ℕ, Bool, true, false, List, [], ◌++◌, codes, Option, Some, None, if◌then◌else◌}
use Rattle.std.specs.Option.{is_some}
use Rattle.nmvs_rules.specs.declared.entry.Entry.{Entry}
use Rattle.nmvs_rules.specs.declared.facts.Known.{Known}
use Rattle.nmvs_rules.specs.Facts.{pack_fact}
use Rattle.nmvs_rules.specs.Questions.{pack_of}
use Rattle.nmvs_cases.specs.declared.act.Act.{Act}
use Rattle.nmvs_cases.specs.declared.act.Act.TheVariants.{Take, Leave, Close, Confirm, Inform, Reopen}
use Rattle.nmvs_cases.specs.declared.act.Reader.{Reader}
use Rattle.nmvs_cases.specs.declared.act.Reader.TheVariants.{Owner}
use Rattle.nmvs_cases.specs.declared.act.Verdict.TheVariants.{Technical}
use Rattle.nmvs_cases.specs.declared.act.Whom.TheVariants.{Agency}
use Rattle.nmvs_cases.specs.declared.author.Author.{Author}
use Rattle.nmvs_cases.specs.declared.case.Case.{Case}
use Rattle.nmvs_cases.specs.declared.case.Case.TheVariants.{Taken, Closed, Confirmed}
use Rattle.nmvs_cases.specs.declared.case.Informed.{Informed}
use Rattle.nmvs_cases.specs.ActWords.{act_word, verdict_word}
use Rattle.nmvs_cases.specs.Authors.{author_reader, author_user}
use Rattle.nmvs_cases.specs.Cases.{after}
use Rattle.nmvs_alerts.specs.declared.alert.FlaggedAlert.{FlaggedAlert}
use Rattle.nmvs_alerts.specs.Json.{named, text_member}
use Rattle.nmvs_alerts.specs.Rows.{row_text}
use Rattle.nmvs_alerts.specs.Viewing.{sees_houses}

-- the name of who took the case, if anybody has; an owner does not see it
abbrev pub taken_by : Reader → Case → List ℕ
taken_by Owner s = []
taken_by r (Taken u) = u.bytes
taken_by r s = []

abbrev pub verdict_of : Case → List ℕ
verdict_of (Closed v) = verdict_word v
verdict_of s = []

-- those whom the Article names and who were informed (Article 37(d))
abbrev pub informed_of : Bool → Bool → Bool → List ℕ
informed_of false false false = []
informed_of true false false = codes "\"AUTHORITY\""
informed_of false true false = codes "\"EMA\""
informed_of false false true = codes "\"COMMISSION\""
informed_of true true false = codes "\"AUTHORITY\",\"EMA\""
informed_of true false true = codes "\"AUTHORITY\",\"COMMISSION\""
informed_of false true true = codes "\"EMA\",\"COMMISSION\""
informed_of true true true = codes "\"AUTHORITY\",\"EMA\",\"COMMISSION\""

unfoldable pub those : Informed → List ℕ
those i = informed_of i.authority i.agency i.commission

unfoldable pub those_of : Case → List ℕ
those_of (Confirmed i) = those i
those_of s = []

unfoldable pub informed_text : Case → List ℕ
informed_text s = named (codes "informed") ++ (codes "[" ++ (those_of s ++ codes "]"))

-- whether an author may do an act on a case
abbrev pub may : Act → Case → Author → Bool
may a s u = is_some (after s a (author_reader u) (author_user u))

unfoldable pub before : Act → Case → Author → List ℕ
before a s u = if may a s u then codes "\"" ++ (act_word a ++ codes "\",") else []

unfoldable pub behind : Act → Case → Author → List ℕ
behind a s u = if may a s u then codes ",\"" ++ (act_word a ++ codes "\"") else []

-- the acts that an author may do on a case; a note is always among them
unfoldable pub may_text : Case → Author → List ℕ
may_text s u =
    named (codes "may") ++ (codes "[" ++ (before Take s u ++ (before Leave s u ++ (codes "\"NOTE\"" ++ (behind (Close Technical) s u
    ++ (behind Confirm s u ++ (behind (Inform Agency) s u ++ (behind Reopen s u ++ codes "]"))))))))

unfoldable pub known_text : Option Known → List ℕ
known_text None = codes ",\"batch\":\"\",\"expiry\":\"\""
known_text (Some k) = text_member (codes "batch") k.batch.bytes ++ text_member (codes "expiry") k.expiry.bytes

-- an alert up to its acts
unfoldable pub alert_text : List Entry → Author → FlaggedAlert → List ℕ
alert_text t u a =
    row_text a (sees_houses u) ++ (text_member (codes "by") (taken_by (author_reader u) a.case) ++ (text_member (codes "verdict") (verdict_of a.case)
    ++ (informed_text a.case ++ (may_text a.case u ++ known_text (pack_fact t (pack_of a.entry.put.question))))))
