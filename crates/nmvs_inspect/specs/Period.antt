-- The earliest and the latest moment of a trail (own).
use Rattle.std.specs.Prelude.{◌≡◌, ℕ, ◌*◌, if◌then◌else◌, nat_lt, List, [], ◌++◌, fold, codes, pos, Option, Some, None}
use Rattle.jiff_core.specs.DateTime.{civil_nanos}
use Rattle.jiff_core.specs.declared.civil.datetime.DateTime.{DateTime}
use Rattle.nmvs_rules.specs.declared.entry.Entry.{Entry}
use Rattle.nmvs_inspect.specs.Rows.{moment_text}
use Rattle.nmvs_inspect.specs.declared.period.Period.{Period}

-- a period with one more moment
abbrev pub with_moment : Option Period → ℕ → Option Period
with_moment None m = Some (record { first = m; last = m })
with_moment (Some p) m =
    Some (record { first = if nat_lt m p.first then m else p.first; last = if nat_lt p.last m then m else p.last })

-- the period of a trail; an empty trail has none
abbrev pub period_of : List Entry → Option Period
period_of t = fold (λ p e. with_moment p e.put.moment) None t

-- the line with the earliest and the latest moment
abbrev pub line : DateTime → DateTime → List ℕ
line first last = codes "From " ++ (moment_text first ++ (codes " to " ++ (moment_text last ++ codes "\n")))

-- a text is the line of a period, with dates and times of UTC; it is empty if there is no period
abbrev pub IsLineOf : Option Period → List ℕ → Type 0
IsLineOf None text = text ≡ []
IsLineOf (Some p) text =
    (first : DateTime) × (last : DateTime) × (civil_nanos first ≡ pos (p.first * 1_000_000_000))
    × (civil_nanos last ≡ pos (p.last * 1_000_000_000)) × (text ≡ line first last)
