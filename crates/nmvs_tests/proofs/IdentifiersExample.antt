-- Product codes, serial and batch numbers, expiry dates, names, tags, moments and packs.
use Rattle.std.proofs.Common.{◌≡◌, ℕ, Bool, true, false, List, [], ◌∷◌, refl}
use Rattle.std.specs.Prelude.{codes, map, length, nat_eq, nat_le, not, pos, ◌==◌, ◌&&◌}
use Rattle.std.specs.List.{list_all, list_any, range_with_len}
use Rattle.std.specs.Char.{is_ascii_digit}
use Rattle.std.specs.Str.Parse.{digits_value}
use Rattle.jiff_core.specs.Calendar.{days_from_civil, day_count, days_of_years, days_of_months}
use Rattle.nmvs_identifier.specs.Characters.{is_in_set_82}
use Rattle.nmvs_identifier.specs.ProductCode.{is_product_code, is_checked}
use Rattle.nmvs_identifier.specs.Serial.{is_serial}
use Rattle.nmvs_identifier.specs.Batch.{is_batch}
use Rattle.nmvs_identifier.specs.Expiry.{is_expiry, has_month, has_day, expiry_day}
use Rattle.nmvs_identifier.specs.Name.{is_name, has_name_characters}
use Rattle.nmvs_identifier.specs.Tag.{is_tag}
use Rattle.nmvs_identifier.specs.Moment.{is_moment, day_of}
use Rattle.nmvs_identifier.specs.Pack.{same_pack}
use Rattle.nmvs_identifier.specs.declared.pack.Pack.{Pack}
use Rattle.nmvs_tests.proofs.Gives.{Gives}

abbrev Two : Type 0
Two = Bool × Bool

abbrev Three : Type 0
Three = Bool × Bool × Bool

-- the GS1 example of a GTIN-14
code : is_product_code (codes "09506000134352") ≡ true
code = refl

code-number : digits_value 10 (codes "09506000134352") ≡ 9_506_000_134_352
code-number = refl

-- whether a text has the length of a product code, digits alone, and the right check digit: the first that it lacks is its fault
abbrev of_code : List ℕ → Three
of_code t = (length t == 14, list_all is_ascii_digit t, is_checked t)

code-faults : Gives of_code (
    (codes "0950600013435", (false, true, false))
    ∷ (codes "0950600013435x", (true, false, false))
    ∷ (codes "09506000134353", (true, true, false))
    ∷ [])
code-faults = refl

-- whether a text has 1 to 20 characters, and those of the set alone
abbrev of_text : List ℕ → Two
of_text t = (nat_le 1 (length t) && nat_le (length t) 20, list_all is_in_set_82 t)

serials : Gives is_serial ((codes "ABC/DEF%GHI/JKL%MN12", true) ∷ (codes "A", true) ∷ [])
serials = refl

batch : is_batch (codes "B1") ≡ true
batch = refl

text-faults : Gives of_text (
    (codes "ABC/DEF%GHI/JKL%MN123", (false, true))
    ∷ (codes "", (false, true))
    ∷ (codes "A B", (true, false))
    ∷ (codes "#1", (true, false))
    ∷ (195 ∷ 169 ∷ [], (true, false))
    ∷ [])
text-faults = refl

-- the characters of ISO/IEC 646, columns 2 to 7, a column a text; one that is not in the GS1 character set 82 is blank (GS1
-- General Specifications, figure 7.11-1)
abbrev set_82 : List (List ℕ)
set_82 =
    codes " !\"  %&'()*+,-./"
    ∷ codes "0123456789:;<=>?"
    ∷ codes " ABCDEFGHIJKLMNO"
    ∷ codes "PQRSTUVWXYZ    _"
    ∷ codes " abcdefghijklmno"
    ∷ codes "pqrstuvwxyz     "
    ∷ []

-- the same for the characters of names, and for the first of a name (own)
abbrev names : List (List ℕ)
names =
    codes "             -. "
    ∷ codes "0123456789      "
    ∷ codes " ABCDEFGHIJKLMNO"
    ∷ codes "PQRSTUVWXYZ    _"
    ∷ codes " abcdefghijklmno"
    ∷ codes "pqrstuvwxyz     "
    ∷ []

abbrev firsts : List (List ℕ)
firsts =
    codes "                "
    ∷ codes "0123456789      "
    ∷ codes " ABCDEFGHIJKLMNO"
    ∷ codes "PQRSTUVWXYZ     "
    ∷ codes " abcdefghijklmno"
    ∷ codes "pqrstuvwxyz     "
    ∷ []

abbrev is_listed : List (List ℕ) → ℕ → Bool
is_listed table c = not (c == 32) && list_any (list_any (nat_eq c)) table

-- control characters, the space and DEL are in none of the tables
abbrev ascii : List ℕ
ascii = range_with_len 0 128

characters-of-serials : map (λ c. is_serial (120 ∷ c ∷ [])) ascii ≡ map (is_listed set_82) ascii
characters-of-serials = refl

characters-of-batches : map (λ c. is_batch (c ∷ [])) ascii ≡ map (is_listed set_82) ascii
characters-of-batches = refl

characters-of-names : map (λ c. is_name (120 ∷ c ∷ [])) ascii ≡ map (is_listed names) ascii
characters-of-names = refl

first-characters-of-names : map (λ c. is_name (c ∷ [])) ascii ≡ map (is_listed firsts) ascii
first-characters-of-names = refl

-- the end of February, a leap day, the first month and the last day; the numbers are those of another calendar (GNU date)
days : Gives expiry_day (
    (codes "280200", pos 21_243)
    ∷ (codes "280229", pos 21_243)
    ∷ (codes "000100", pos 10_987)
    ∷ (codes "991231", pos 47_481)
    ∷ [])
unfolding days_from_civil day_count days_of_years days_of_months
days = refl

expiries : map is_expiry (codes "280200" ∷ codes "280229" ∷ codes "000100" ∷ codes "991231" ∷ []) ≡ true ∷ true ∷ true ∷ true ∷ []
expiries = refl

-- whether a text has the length of an expiry date, digits alone, and one of the twelve months: the first that it lacks is its fault,
-- or else that its month does not have its day
abbrev of_expiry : List ℕ → Three
of_expiry t = (length t == 6, list_all is_ascii_digit t, has_month t)

expiry-faults : Gives of_expiry (
    (codes "28022", (false, true, true))
    ∷ (codes "2802a0", (true, false, true))
    ∷ (codes "281300", (true, true, false))
    ∷ (codes "270229", (true, true, true))
    ∷ [])
expiry-faults = refl

no-leap-day : has_day (codes "270229") ≡ false
no-leap-day = refl

abbrev of_name : List ℕ → Two
of_name t = (nat_le 1 (length t) && nat_le (length t) 20, has_name_characters t)

names-read : Gives of_name (
    (codes "MAH-1", (true, true))
    ∷ (codes "-x", (true, false))
    ∷ (codes "", (false, false))
    ∷ (codes "a.b_c-d.e_f-g.h_i-j.k", (false, true))
    ∷ (195 ∷ 169 ∷ [], (true, false))
    ∷ [])
names-read = refl

tags-read : Gives is_tag (
    (codes "a17", true)
    ∷ (codes "#x", false)
    ∷ (codes "", false)
    ∷ (codes "a.b_c-d.e_f-g.h_i-j.k", true)
    ∷ (codes "8e03978e-40d5-43dd-bc93-6894a57f9324", true)
    ∷ (codes "a123456789b123456789c123456789d123456789", true)
    ∷ (codes "a123456789b123456789c123456789d123456789e", false)
    ∷ [])
tags-read = refl

moments : Gives is_moment ((1_767_225_600, true) ∷ (4_102_444_799, true) ∷ (4_102_444_800, false) ∷ [])
moments = refl

-- 1 January 2026
day-of-moment : day_of 1_767_225_600 ≡ 20_454
day-of-moment = refl

abbrev pack : List ℕ → List ℕ → Pack
pack c s = record { code = record { bytes = c }; serial = record { bytes = s } }

packs : Gives (same_pack (pack (codes "09506000134352") (codes "SN1"))) (
    (pack (codes "09506000134352") (codes "SN1"), true)
    ∷ (pack (codes "04012345678901") (codes "SN1"), false)
    ∷ (pack (codes "09506000134352") (codes "SN2"), false)
    ∷ [])
packs = refl
