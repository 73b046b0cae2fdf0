-- Lists of flagged alerts, as JSON (own).
use Rattle.std.specs.Prelude.{ℕ, Bool, false, List, [], ◌∷◌, ◌++◌, codes, decimal, drop, length, nat_le, take, if◌then◌else◌}
use Rattle.std.specs.Option.{is_some, option_map_or}
use Rattle.nmvs_rules.specs.declared.entry.Entry.{Entry}
use Rattle.nmvs_cases.specs.declared.author.Author.{Author}
use Rattle.nmvs_alerts.specs.declared.flagged.Flagged.{Flagged}
use Rattle.nmvs_alerts.specs.declared.selection.AlertFilter.{AlertFilter}
use Rattle.nmvs_alerts.specs.Alerts.{alert_of}
use Rattle.nmvs_alerts.specs.Json.{joined}
use Rattle.nmvs_alerts.specs.Rows.{row_text}
use Rattle.nmvs_alerts.specs.Selection.{selected}
use Rattle.nmvs_alerts.specs.Viewing.{sees_houses}

-- the row of a flagged alert of the trail
unfoldable pub row_of : List Entry → Bool → Flagged → List ℕ
row_of t with_house f = option_map_or (λ a. row_text a with_house ++ codes "}") (alert_of t f) []

abbrev pub is_hinted : List Entry → Flagged → Bool
is_hinted t f = option_map_or (λ a. is_some a.hint) (alert_of t f) false

abbrev pub letter_of : Bool → List ℕ
letter_of hinted = if hinted then codes "h" else codes "u"

abbrev pub place_text : List Entry → List Flagged → List ℕ
place_text t [] = []
place_text t (f ∷ fs) = letter_of (is_hinted t f) ++ decimal f.place

-- the place of the hundredth alert in the list, if more follow
unfoldable pub next_of : List Entry → List Flagged → List ℕ
next_of t found = if nat_le (length found) 100 then [] else place_text t (drop 99 found)

unfoldable pub found_text : List Entry → Bool → List Flagged → List ℕ
found_text t with_house found =
    codes "{\"alerts\":[" ++ (joined (row_of t with_house) (take 100 found) ++ (codes "],\"next\":\"" ++ (next_of t found ++ codes "\"}")))

-- the first hundred alerts that the reader asks for and sees, and where the next ones begin
abbrev pub alerts_text : List Entry → List Flagged → Author → AlertFilter → List ℕ
alerts_text t fs u f = found_text t (sees_houses u) (selected t u f fs)
