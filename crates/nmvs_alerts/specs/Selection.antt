-- The flagged alerts that a reader asks for (own).
use Rattle.std.specs.Prelude.{ℕ, Bool, true, false, ◌&&◌, List, [], ◌∷◌, ◌++◌, nat_lt, Option, Some, None, if◌then◌else◌}
use Rattle.std.specs.List.{flat_map}
use Rattle.std.specs.Option.{is_none, is_some, option_map_or}
use Rattle.std.specs.Str.{bytes_eq}
use Rattle.nmvs_rules.specs.declared.entry.Entry.{Entry}
use Rattle.nmvs_cases.specs.declared.author.Author.{Author}
use Rattle.nmvs_cases.specs.declared.case.Case.{Case}
use Rattle.nmvs_cases.specs.declared.case.Case.TheVariants as case
use Rattle.nmvs_cases.specs.declared.hint.Hint.{Hint}
use Rattle.nmvs_cases.specs.Cases.{is_hinted, is_listed}
use Rattle.nmvs_inspect.specs.Filter as filters
use Rattle.nmvs_words.specs.Words.{cause_word}
use Rattle.nmvs_alerts.specs.declared.alert.FlaggedAlert.{FlaggedAlert}
use Rattle.nmvs_alerts.specs.declared.flagged.Flagged.{Flagged}
use Rattle.nmvs_alerts.specs.declared.selection.AlertFilter.{AlertFilter}
use Rattle.nmvs_alerts.specs.declared.selection.Behind.{Behind}
use Rattle.nmvs_alerts.specs.declared.selection.Wanted.{Wanted}
use Rattle.nmvs_alerts.specs.declared.selection.Wanted.TheVariants.{Listed, Any, Open, Taken, Closed, Confirmed}
use Rattle.nmvs_alerts.specs.Alerts.{alert_of}
use Rattle.nmvs_alerts.specs.Viewing.{may_see}

-- whether a case is one of those that are wanted
abbrev pub has_case : Wanted → Case → Bool
has_case Listed s = is_listed s
has_case Any s = true
has_case Open case.Open = true
has_case Taken (case.Taken by) = true
has_case Closed (case.Closed v) = true
has_case Confirmed (case.Confirmed i) = true
has_case w s = false

-- whether the filter takes a flagged alert of the trail
abbrev pub takes : AlertFilter → List Entry → FlaggedAlert → Bool
takes f t a =
    filters.is_wanted (λ c. bytes_eq (cause_word a.cause) (cause_word c)) f.cause && is_hinted f.hinted a.hint && has_case f.wanted a.case
    && filters.takes f.entries t a.entry

abbrev pub follows : Bool → Bool → ℕ → ℕ → Bool
follows false true last place = true
follows true false last place = false
follows earlier hinted last place = nat_lt last place

-- whether an alert with a hint, or with none, stands behind another in the list: those without a hint come first, then oldest first
abbrev pub is_behind : Option Behind → Bool → ℕ → Bool
is_behind None hinted place = true
is_behind (Some b) hinted place = follows b.hinted hinted b.place place

-- whether there is a hint, if one is wanted, or none if none is
abbrev pub has_hint : Bool → Option Hint → Bool
has_hint hinted h = if hinted then is_some h else is_none h

abbrev pub is_wanted_alert : List Entry → Author → AlertFilter → Bool → Flagged → FlaggedAlert → Bool
is_wanted_alert t u f hinted flagged a =
    has_hint hinted a.hint && is_behind f.behind hinted flagged.place && takes f t a && may_see t u a.entry.put

abbrev pub is_wanted : List Entry → Author → AlertFilter → Bool → Flagged → Bool
is_wanted t u f hinted flagged = option_map_or (is_wanted_alert t u f hinted flagged) (alert_of t flagged) false

abbrev pub wanted : List Entry → Author → AlertFilter → Bool → Flagged → List Flagged
wanted t u f hinted flagged = if is_wanted t u f hinted flagged then flagged ∷ [] else []

-- those that the reader asks for and sees: those without a hint first, then oldest first
abbrev pub selected : List Entry → Author → AlertFilter → List Flagged → List Flagged
selected t u f fs = flat_map (wanted t u f false) fs ++ flat_map (wanted t u f true) fs
