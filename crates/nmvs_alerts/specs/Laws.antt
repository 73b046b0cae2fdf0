-- The law of what a holder gets (Article 38(1); own), over two trails.
use Rattle.std.specs.Prelude.{ℕ, ◌≡◌, ◌↔◌, true, List, []}
use Rattle.std.specs.List.{AllZip, flat_map}
use Rattle.std.specs.Option.{option_map_or}
use Rattle.nmvs_identifier.specs.Name.{Name}
use Rattle.nmvs_identifier.specs.ProductCode.{ProductCode}
use Rattle.nmvs_reports.specs.declared.alert_name.AlertName.{AlertName}
use Rattle.nmvs_cases.specs.declared.author.Author.{Author}
use Rattle.nmvs_cases.specs.declared.range.Hinted.{Hinted}
use Rattle.nmvs_alerts.specs.declared.numbers.Counted.{Counted}
use Rattle.nmvs_alerts.specs.declared.selection.AlertFilter.{AlertFilter}
use Rattle.nmvs_alerts.specs.Alerts.{Investigated, flagged_in}
use Rattle.nmvs_alerts.specs.Answers.{alert_named, may_ask, range_text, ranged, reader_text, stands_text}
use Rattle.nmvs_alerts.specs.Numbers.{IsCounted, seen}
use Rattle.nmvs_alerts.specs.Pages.{alerts_text}
use Rattle.nmvs_alerts.specs.Renaming.{Renaming, RenamesOthers, holder, renamed}

-- the text of one alert, if the reader sees it
abbrev pub one_of : Investigated → Author → AlertName → List ℕ
one_of i u name = option_map_or (stands_text i u) (alert_named i u name) []

abbrev pub range_of : Investigated → Author → ProductCode → Hinted → List ℕ
range_of i u c h = range_text i.trail (ranged i.trail u c h (flagged_in i))

-- a reader gets the same over one trail as over another, byte for byte
pub record GetsSame (u : Author) (i j : Investigated) : Type 0 where
  pub reader : (fault : List ℕ) → reader_text i.trail u fault ≡ reader_text j.trail u fault
  pub alerts : (f : AlertFilter) → may_ask u f.entries ≡ true → alerts_text i.trail (flagged_in i) u f ≡ alerts_text j.trail (flagged_in j) u f
  pub alert : (name : AlertName) → one_of i u name ≡ one_of j u name
  pub numbers : (cs : List Counted) → AllZip IsCounted (flat_map (seen i.trail u) (flagged_in i)) cs ↔ AllZip IsCounted (flat_map (seen j.trail u) (flagged_in j)) cs
  pub range : (c : ProductCode) (h : Hinted) → range_of i u c h ≡ range_of j u c h

-- no house is shown: a holder gets the same if the users, authorisations and premises of others have other names, one to one
abbrev pub NoHouseIsShown : Type 0
NoHouseIsShown = (r : Renaming) (u a p : Name) → RenamesOthers r u a → (i : Investigated) → GetsSame (holder u a p) (renamed r i) i
