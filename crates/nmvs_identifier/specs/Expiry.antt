-- An expiry date, application identifier 17: YYMMDD, the year 2000 + YY, and DD = 00 for the last day of the month (Article
-- 4(b)(v)).
use Rattle.std.specs.Prelude.{ℕ, Bool, List, length, ◌+◌, ◌&&◌, ◌==◌, nat_le, slice_range, if◌then◌else◌, ℤ, pos}
use Rattle.std.specs.List.{list_all}
use Rattle.std.specs.Char.{is_ascii_digit}
use Rattle.std.specs.Str.Parse.{digits_value}
use Rattle.jiff_core.specs.Calendar.{days_in_month, days_from_civil}
use Rattle.nmvs_identifier.specs.Texts.{Text}

-- the model of an expiry date
abbrev pub Expiry : Type 0
Expiry = Text

-- the year, the month and the day that are written
abbrev pub year_of : List ℕ → ℕ
year_of t = 2000 + digits_value 10 (slice_range t 0 2)

abbrev pub month_of : List ℕ → ℕ
month_of t = digits_value 10 (slice_range t 2 4)

abbrev pub written_day_of : List ℕ → ℕ
written_day_of t = digits_value 10 (slice_range t 4 6)

-- the days of that month
abbrev pub month_length_of : List ℕ → ℕ
month_length_of t = days_in_month (pos (year_of t)) (month_of t)

-- whether the month is one of the twelve, and whether it has the day
abbrev pub has_month : List ℕ → Bool
has_month t = nat_le 1 (month_of t) && nat_le (month_of t) 12

abbrev pub has_day : List ℕ → Bool
has_day t = nat_le (written_day_of t) (month_length_of t)

-- whether a text is an expiry date
abbrev pub is_expiry : List ℕ → Bool
is_expiry t = (length t == 6) && list_all is_ascii_digit t && has_month t && has_day t

-- the day of the month, 1 to 31
abbrev pub day_of_month : List ℕ → ℕ
day_of_month t = if written_day_of t == 0 then month_length_of t else written_day_of t

-- the day number of the date, counted from 1970-01-01
abbrev pub expiry_day : List ℕ → ℤ
expiry_day t = days_from_civil (pos (year_of t)) (month_of t) (day_of_month t)
