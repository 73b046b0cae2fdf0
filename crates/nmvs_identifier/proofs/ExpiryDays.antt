-- The days of expiry dates, computed from the definitions; the numbers are those of another calendar (GNU date).
use Rattle.std.proofs.Common.{◌≡◌, refl}
use Rattle.std.specs.Prelude.{codes, pos}
use Rattle.jiff_core.specs.Calendar.{days_from_civil, day_count, days_of_years, days_of_months}
use Rattle.nmvs_identifier.specs.Expiry.{expiry_day}

pub day-000100 : expiry_day (codes "000100") ≡ pos 10_987
unfolding days_from_civil day_count days_of_years days_of_months
day-000100 = refl

pub day-280200 : expiry_day (codes "280200") ≡ pos 21_243
unfolding days_from_civil day_count days_of_years days_of_months
day-280200 = refl

pub day-280229 : expiry_day (codes "280229") ≡ pos 21_243
unfolding days_from_civil day_count days_of_years days_of_months
day-280229 = refl

pub day-991231 : expiry_day (codes "991231") ≡ pos 47_481
unfolding days_from_civil day_count days_of_years days_of_months
day-991231 = refl

pub day-240630 : expiry_day (codes "240630") ≡ pos 19_904
unfolding days_from_civil day_count days_of_years days_of_months
day-240630 = refl

pub day-000229 : expiry_day (codes "000229") ≡ pos 11_016
unfolding days_from_civil day_count days_of_years days_of_months
day-000229 = refl
