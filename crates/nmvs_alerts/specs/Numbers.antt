-- The numbers of the flagged alerts that a reader sees (own, for Article 37(c)).
use Rattle.std.specs.Prelude.{ℕ, ◌≡◌, ◌+◌, ◌/◌, ◌%◌, ◌==◌, ℤ, pos, ◌-ℤ◌, List, [], ◌∷◌, ◌++◌, Option, Some, None, codes, count_by, decimal, find, fold, nat_lt, if◌then◌else◌}
use Rattle.std.specs.List.{list_any}
use Rattle.std.specs.Option.{option_map_or}
use Rattle.jiff_core.specs.Date.{epoch_day}
use Rattle.jiff_fmt.specs.Text.{date_text}
use Rattle.nmvs_identifier.specs.Moment.{day_of}
use Rattle.nmvs_rules.specs.declared.entry.Entry.{Entry}
use Rattle.nmvs_cases.specs.declared.act.Verdict.TheVariants.{Technical, Procedural, Market}
use Rattle.nmvs_cases.specs.declared.author.Author.{Author}
use Rattle.nmvs_cases.specs.declared.case.Case.{Case}
use Rattle.nmvs_cases.specs.declared.case.Case.TheVariants.{Open, Taken, Closed, Confirmed}
use Rattle.nmvs_cases.specs.declared.hint.Hint.{Hint}
use Rattle.nmvs_cases.specs.declared.hint.Hint.TheVariants.{Late, Caps, Layout, NoCode, Own, House}
use Rattle.nmvs_cases.specs.Cases.{are_all, is_listed}
use Rattle.nmvs_cases.specs.Hints.{hint_word}
use Rattle.nmvs_alerts.specs.declared.alert.FlaggedAlert.{FlaggedAlert}
use Rattle.nmvs_alerts.specs.declared.flagged.Flagged.{Flagged}
use Rattle.nmvs_alerts.specs.declared.numbers.Counted.{Counted}
use Rattle.nmvs_alerts.specs.Alerts.{alert_of}
use Rattle.nmvs_alerts.specs.Json.{joined, named, number_member}
use Rattle.nmvs_alerts.specs.Viewing.{may_see}

-- the flagged alerts that a reader sees
abbrev pub seen_as : List Entry → Author → Option FlaggedAlert → List FlaggedAlert
seen_as t u None = []
seen_as t u (Some a) = if may_see t u a.entry.put then a ∷ [] else []

abbrev pub seen : List Entry → Author → Flagged → List FlaggedAlert
seen t u f = seen_as t u (alert_of t f)

-- the place of a state among the numbers: a confirmed one counts apart until all are informed (Article 37(d))
abbrev pub state_place : Case → ℕ
state_place Open = 0
state_place (Taken by) = 1
state_place (Confirmed i) = if are_all i then 6 else 2
state_place (Closed Technical) = 3
state_place (Closed Procedural) = 4
state_place (Closed Market) = 5

-- the place of a hint; of one that is not in the list of work the hint is not counted
abbrev pub hint_place : Option Hint → ℕ
hint_place None = 0
hint_place (Some Late) = 1
hint_place (Some Caps) = 2
hint_place (Some Layout) = 3
hint_place (Some NoCode) = 4
hint_place (Some Own) = 5
hint_place (Some House) = 6

abbrev pub listed_place : FlaggedAlert → ℕ
listed_place a = if is_listed a.case then hint_place a.hint else 7

-- the Monday on a day or before it, both in days since 1970-01-01, which was a Thursday
abbrev pub monday_of : ℕ → ℤ
monday_of n = pos n -ℤ pos ((n + 3) % 7)

-- what is counted of a flagged alert
pub record IsCounted (a : FlaggedAlert) (c : Counted) : Type 0 where
  pub state : c.state ≡ state_place a.case
  pub hint : c.hint ≡ listed_place a
  pub moment : c.moment ≡ a.entry.put.moment
  pub week : c.week ≡ (day_of a.entry.put.moment + 3) / 7
  pub monday : epoch_day c.monday ≡ monday_of (day_of a.entry.put.moment)

-- how many there are with this state, and how many of the list of work with this hint
abbrev pub in_state : List Counted → ℕ → ℕ
in_state cs place = count_by (λ c. c.state == place) cs

abbrev pub with_hint : List Counted → ℕ → ℕ
with_hint cs place = count_by (λ c. c.hint == place) cs

-- the moment of the first of the list of work
abbrev pub oldest : List Counted → ℕ
oldest cs = option_map_or (λ c. c.moment) (find (λ c. nat_lt c.hint 7) cs) 0

-- each week that has one, by its first
abbrev pub with_week : List Counted → Counted → List Counted
with_week ws c = if list_any (λ w. w.week == c.week) ws then ws else ws ++ c ∷ []

abbrev pub weeks_of : List Counted → List Counted
weeks_of cs = fold with_week [] cs

-- the numbers as JSON
unfoldable pub listed_states_text : List Counted → List ℕ
listed_states_text cs =
    codes "{\"open\":" ++ (decimal (in_state cs 0) ++ (number_member (codes "taken") (in_state cs 1) ++ number_member (codes "confirmed") (in_state cs 2)))

unfoldable pub closed_states_text : List Counted → List ℕ
closed_states_text cs =
    number_member (codes "technical") (in_state cs 3) ++ (number_member (codes "procedural") (in_state cs 4)
    ++ (number_member (codes "market") (in_state cs 5) ++ number_member (codes "falsified") (in_state cs 6)))

unfoldable pub hint_number_text : List Counted → Hint → List ℕ
hint_number_text cs h = codes "],[\"" ++ (hint_word h ++ (codes "\"," ++ decimal (with_hint cs (hint_place (Some h)))))

unfoldable pub unknown_hints_text : List Counted → List ℕ
unknown_hints_text cs = hint_number_text cs Late ++ (hint_number_text cs Caps ++ (hint_number_text cs Layout ++ hint_number_text cs NoCode))

unfoldable pub repeated_hints_text : List Counted → List ℕ
repeated_hints_text cs = hint_number_text cs Own ++ (hint_number_text cs House ++ codes "]]")

unfoldable pub hints_text : List Counted → List ℕ
hints_text cs =
    named (codes "hints") ++ (codes "[[\"\"," ++ (decimal (with_hint cs 0) ++ (unknown_hints_text cs ++ repeated_hints_text cs)))

-- a week by the date of its Monday
unfoldable pub week_text : List Counted → Counted → List ℕ
week_text cs w = codes "[\"" ++ (date_text w.monday ++ (codes "\"," ++ (decimal (count_by (λ c. c.week == w.week) cs) ++ codes "]")))

unfoldable pub weeks_text : List Counted → List ℕ
weeks_text cs = named (codes "weeks") ++ (codes "[" ++ (joined (week_text cs) (weeks_of cs) ++ codes "]}"))

unfoldable pub numbers_text : List Counted → List ℕ
numbers_text cs =
    listed_states_text cs ++ (closed_states_text cs ++ (hints_text cs ++ (number_member (codes "oldest") (oldest cs) ++ weeks_text cs)))
