-- The premises with the most flagged alerts (own).
use Rattle.std.specs.Prelude.{ℕ, ◌-◌, List, [], ◌∷◌, ◌++◌, codes, take}
use Rattle.std.specs.List.{flat_map}
use Rattle.std.specs.List.Sorted.{IsNonDecreasingBy, IsStableByKey}
use Rattle.std.specs.Ordering.{nat_cmp}
use Rattle.nmvs_rules.specs.declared.entry.Entry.{Entry}
use Rattle.nmvs_inspect.specs.declared.by.By.{By}
use Rattle.nmvs_inspect.specs.declared.by.By.TheVariants as by
use Rattle.nmvs_inspect.specs.declared.filter.Filter.{Filter}
use Rattle.nmvs_inspect.specs.declared.form.Form.TheVariants as form
use Rattle.nmvs_inspect.specs.Groups.{AreSingle, Group, group_row, groups_of}

-- the parts that name premises: the same name under another authorisation is other premises
abbrev pub by_premises : List By
by_premises = by.Authorisation ∷ by.Premises ∷ []

-- the distance of a group's number from the greatest number
abbrev pub rank : Group → ℕ
rank g = 18_446_744_073_709_551_615 - g.number

-- the same groups, those with the most entries first; groups of equal number stay in their order
pub record AreMostFirst (gs most : List Group) : Type 0 where
  pub sorted : IsNonDecreasingBy rank most
  pub stable : IsStableByKey rank nat_cmp gs most

-- the premises of the entries that a filter takes, those with the most of them first
abbrev pub ArePremises : Filter → List Entry → List Group → Type 0
ArePremises f t most = (each : List Group) × AreSingle f t each × AreMostFirst (groups_of by_premises each) most

-- the rows of the first 20
abbrev pub premises_rows : List Group → List ℕ
premises_rows most = flat_map (group_row form.Html by_premises) (take 20 most)
