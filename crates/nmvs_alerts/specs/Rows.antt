-- The row of a flagged alert, as JSON (own).
use Rattle.std.specs.Prelude.{ℕ, Bool, List, [], ◌++◌, codes, Option, Some, None, if◌then◌else◌}
use Rattle.nmvs_identifier.specs.declared.pack.Pack.{Pack}
use Rattle.nmvs_reports.specs.Alerts.{alert_text}
use Rattle.nmvs_rules.specs.declared.put.Put.{Put}
use Rattle.nmvs_rules.specs.Questions.{code_of, pack_of}
use Rattle.nmvs_words.specs.Kinds.{kind_of, kind_word}
use Rattle.nmvs_words.specs.Words.{cause_word, role_word}
use Rattle.nmvs_cases.specs.declared.case.Case.{Case}
use Rattle.nmvs_cases.specs.declared.case.Case.TheVariants.{Open, Taken, Closed, Confirmed}
use Rattle.nmvs_cases.specs.declared.hint.Hint.{Hint}
use Rattle.nmvs_cases.specs.Hints.{hint_word}
use Rattle.nmvs_alerts.specs.declared.alert.FlaggedAlert.{FlaggedAlert}
use Rattle.nmvs_alerts.specs.Json.{number_member, text_member}

abbrev pub serial_of : Option Pack → List ℕ
serial_of None = []
serial_of (Some p) = p.serial.bytes

abbrev pub hint_text : Option Hint → List ℕ
hint_text None = []
hint_text (Some h) = hint_word h

abbrev pub case_word : Case → List ℕ
case_word Open = codes "OPEN"
case_word (Taken by) = codes "TAKEN"
case_word (Closed v) = codes "CLOSED"
case_word (Confirmed i) = codes "CONFIRMED"

-- the alert's name and moment
unfoldable pub front_text : FlaggedAlert → List ℕ
front_text a = codes "{\"alert\":\"" ++ (alert_text a.name ++ (codes "\"" ++ number_member (codes "moment") a.entry.put.moment))

-- the question and the pack
unfoldable pub pack_text : Put → List ℕ
pack_text q =
    text_member (codes "question") (kind_word (kind_of q.question)) ++ (text_member (codes "code") (code_of q.question).bytes
    ++ text_member (codes "serial") (serial_of (pack_of q.question)))

-- the cause, the hint and the state
unfoldable pub state_text : FlaggedAlert → List ℕ
state_text a =
    text_member (codes "cause") (cause_word a.cause) ++ (text_member (codes "hint") (hint_text a.hint)
    ++ text_member (codes "state") (case_word a.case))

-- who asked, in which capacity
unfoldable pub house_text : Put → List ℕ
house_text q =
    text_member (codes "user") q.user.bytes ++ (text_member (codes "role") (role_word q.actor.role)
    ++ (text_member (codes "authorisation") q.actor.authorisation.bytes ++ text_member (codes "premises") q.actor.premises.bytes))

-- the members of a row, behind an opening brace
unfoldable pub row_text : FlaggedAlert → Bool → List ℕ
row_text a with_house = front_text a ++ (pack_text a.entry.put ++ (state_text a ++ (if with_house then house_text a.entry.put else [])))
