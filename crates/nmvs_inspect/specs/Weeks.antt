-- Groups of alerts by week, as a picture (own). Each week has a bar as high as its number of alerts, at the week's
-- place in time.
use Rattle.std.specs.Prelude.{ℕ, ◌+◌, ◌-◌, ◌/◌, max, if◌then◌else◌, nat_lt, List, [], ◌∷◌, ◌++◌, fold, codes, decimal, Option, Some, None}
use Rattle.std.specs.List.{flat_map}
use Rattle.jiff_fmt.specs.Text.{date_text}
use Rattle.nmvs_identifier.specs.Moment.{day_of}
use Rattle.nmvs_inspect.specs.Groups.{Group}
use Rattle.nmvs_inspect.specs.declared.weeks.Span.{Span}

-- the week of a group's first entry, counted from that of 1970-01-01
unfoldable pub week_of : Group → ℕ
week_of g = (day_of g.first.put.moment + 3) / 7

-- the first and the last week, and the most entries of a week, with one more group
abbrev pub with_group : Option Span → Group → Option Span
with_group None g = Some (record { first = g; last = g; most = g.number })
with_group (Some s) g = Some (
    record {
      first = if nat_lt (week_of g) (week_of s.first) then g else s.first;
      last = if nat_lt (week_of s.last) (week_of g) then g else s.last;
      most = max s.most g.number;
    }
    )

abbrev pub span_of : List Group → Option Span
span_of gs = fold with_group None gs

-- how many weeks there are from the first to the last
unfoldable pub weeks_in : Span → ℕ
weeks_in s = week_of s.last - week_of s.first + 1

-- the picture begins with its size: this number of weeks from the first on, and the most entries of a week upwards
abbrev pub width : ℕ → List ℕ
width number = codes "<figure><svg role=\"img\" preserveAspectRatio=\"none\" width=\"" ++ (decimal number ++ codes "em\" viewBox=\"")

abbrev pub view : ℕ → ℕ → ℕ → List ℕ
view first number most =
    decimal first ++ (codes " -" ++ (decimal most ++ (codes " " ++ (decimal number ++ (codes " " ++ (decimal most
    ++ codes "\"><g transform=\"scale(1 -1)\">\n"))))))

unfoldable pub opening : Span → List ℕ
opening s = width (weeks_in s) ++ view (week_of s.first) (weeks_in s) s.most

-- the bar of a week
abbrev pub bar : Group → List ℕ
bar g =
    codes "<rect x=\"" ++ (decimal (week_of g) ++ (codes "\" width=\".8\" height=\"" ++ (decimal g.number ++ (codes "\"><title>"
    ++ (date_text g.monday ++ (codes ": " ++ (decimal g.number ++ codes "</title></rect>\n")))))))

-- the caption of the picture: its weeks and its height
unfoldable pub caption : Span → List ℕ
caption s =
    codes "</g></svg><figcaption>From the week of " ++ (date_text s.first.monday ++ (codes " to that of " ++ (date_text s.last.monday
    ++ (codes "; the highest bar is " ++ (decimal s.most ++ codes ".</figcaption></figure>\n")))))

-- the picture of no groups is a word
abbrev pub spanned : List Group → Option Span → List ℕ
spanned gs None = codes "<p>None.</p>\n"
spanned gs (Some s) = opening s ++ (flat_map bar gs ++ caption s)

abbrev pub chart : List Group → List ℕ
chart gs = spanned gs (span_of gs)
