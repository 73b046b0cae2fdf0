-- Whether an act may be done (own, for Article 37(d)).
use Rattle.std.specs.Prelude.{ℕ, ◌==◌, Bool, true, false, ◌&&◌, List, count_by, Result, Ok, Err, if◌then◌else◌}
use Rattle.std.specs.Option.{is_some, option_map_or}
use Rattle.nmvs_rules.specs.declared.entry.Entry.{Entry}
use Rattle.nmvs_cases.specs.declared.act.Act.{Act}
use Rattle.nmvs_cases.specs.declared.act.Act.TheVariants.{Note, Confirm}
use Rattle.nmvs_cases.specs.declared.act.Reader.{Reader}
use Rattle.nmvs_cases.specs.declared.act.Reader.TheVariants.{Officer, Owner}
use Rattle.nmvs_cases.specs.declared.line.CaseLine.{CaseLine}
use Rattle.nmvs_cases.specs.Authors.{author_reader, author_user}
use Rattle.nmvs_cases.specs.Cases.{after, has}
use Rattle.nmvs_alerts.specs.declared.alert.FlaggedAlert.{FlaggedAlert}
use Rattle.nmvs_alerts.specs.declared.flagged.Flagged.{Flagged}
use Rattle.nmvs_alerts.specs.declared.judging.CaseRefusal.{CaseRefusal}
use Rattle.nmvs_alerts.specs.declared.judging.CaseRefusal.TheVariants.{NoAlert, NotYours, State}
use Rattle.nmvs_alerts.specs.declared.judging.On.{On}
use Rattle.nmvs_alerts.specs.declared.judging.On.TheVariants.{Other, May, MayNot}
use Rattle.nmvs_alerts.specs.Alerts.{alert_of}
use Rattle.nmvs_alerts.specs.Viewing.{may_see}

-- whether a reader of this kind ever does the act: owners write notes alone, and the authority alone confirms
abbrev pub is_act_of : Act → Reader → Bool
is_act_of Note r = true
is_act_of a Owner = false
is_act_of Confirm Officer = false
is_act_of a r = true

-- whether the line is about the alert, and its author sees it
abbrev pub has_alert : CaseLine → FlaggedAlert → Bool
has_alert l a = has l.range a.name.code a.name.number a.hint

abbrev pub is_about : List Entry → CaseLine → FlaggedAlert → Bool
is_about t l a = has_alert l a && may_see t l.author a.entry.put

-- whether the author may do the act on the alert's case
abbrev pub may : CaseLine → FlaggedAlert → Bool
may l a = is_some (after a.case l.act (author_reader l.author) (author_user l.author))

abbrev pub on_alert : List Entry → CaseLine → FlaggedAlert → On
on_alert t l a = if is_about t l a then (if may l a then May else MayNot) else Other

abbrev pub on_in : List Entry → CaseLine → Flagged → On
on_in t l f = option_map_or (on_alert t l) (alert_of t f) Other

-- whether the author may do the act on the alert, or the line is about it at all
abbrev pub is_counted : Bool → On → Bool
is_counted at_all Other = false
is_counted at_all May = true
is_counted at_all MayNot = at_all

abbrev pub counted : Bool → List Entry → List Flagged → CaseLine → ℕ
counted at_all t fs l = count_by (λ f. is_counted at_all (on_in t l f)) fs

-- the first refusal that applies, or the number of alerts on which the act is done: those of the range in a state for it
abbrev pub judged : List Entry → List Flagged → CaseLine → Result ℕ CaseRefusal
judged t fs l =
    if counted true t fs l == 0 then Err NoAlert else (if is_act_of l.act (author_reader l.author) then (if counted false t fs l == 0 then Err State else Ok (counted false t fs l)) else Err NotYours)
