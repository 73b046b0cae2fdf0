-- Which products a holder may upload, and when an enrolment has ended.
use Rattle.jiff_core.specs.Calendar.{days_from_civil, day_count, days_of_years, days_of_months}
use Rattle.std.proofs.Common.{◌≡◌, ℕ, Bool, true, false, List, [], ◌∷◌, Option, Some, None, refl}
use Rattle.std.specs.Prelude.{codes}
use Rattle.nmvs_identifier.specs.Codes.{is_codes}
use Rattle.nmvs_identifier.specs.Texts.{Text}
use Rattle.nmvs_rules.specs.Enrolments.{has_ended, may_upload}
use Rattle.nmvs_tests.proofs.Gives.{Gives}

abbrev text : List ℕ → Text
text t = record { bytes = t }

-- the same product by its code, and by company prefixes of 4 to 12 digits after the indicator digit
abbrev uploads : List ℕ × List ℕ → Bool
uploads (listed, code) = may_upload (Some (text listed)) (text code)

listed : Gives uploads (
    ((codes "09506000134352", codes "09506000134352"), true)
    ∷ ((codes "09506000134352", codes "19506000134359"), false)
    ∷ ((codes "9506000", codes "09506000134352"), true)
    ∷ ((codes "9506000", codes "19506000134359"), true)
    ∷ ((codes "950600013435", codes "09506000134352"), true)
    ∷ ((codes "950600013436", codes "09506000134352"), false)
    ∷ ((codes "0950600", codes "09506000134352"), false)
    ∷ ((codes "4012345,9506000", codes "09506000134352"), true)
    ∷ ((codes "4012345,9506001", codes "09506000134352"), false)
    ∷ [])
listed = refl

-- an enrolment without a list names them all
any-product : may_upload None (text (codes "09506000134352")) ≡ true
any-product = refl

lists : Gives is_codes (
    (codes "9506", true)
    ∷ (codes "950", false)
    ∷ (codes "950600013435", true)
    ∷ (codes "9506000134352", false)
    ∷ (codes "09506000134352", true)
    ∷ (codes "09506000134353", false)
    ∷ (codes "09506000134352,09506000134352,09506000134352,09506000134352", true)
    ∷ (codes "9506000,9506000,9506000,9506000,9506000,9506000,9506000,9506", false)
    ∷ (codes "9506000,", false)
    ∷ (codes "", false)
    ∷ [])
lists = refl

-- 31 December 2027 is day 21,183: its last second, and the first of 2028; day 00 is the last one of the month
abbrev ended : List ℕ × ℕ → Bool
ended (last, moment) = has_ended (Some (text last)) moment

days : Gives ended (
    ((codes "271231", 1_830_297_599), false)
    ∷ ((codes "271231", 1_830_297_600), true)
    ∷ ((codes "271200", 1_830_297_599), false)
    ∷ ((codes "271200", 1_830_297_600), true)
    ∷ [])
unfolding days_from_civil day_count days_of_years days_of_months
days = refl

no-last-day : has_ended None 4_102_444_799 ≡ false
no-last-day = refl
