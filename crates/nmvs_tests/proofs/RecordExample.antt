-- The line of an entry, in each version, and the faults of texts that are no such line.
use Rattle.std.proofs.Common.{◌≡◌, ℕ, List, [], ◌∷◌, ◌++◌, Option, Some, None, Result, Ok, Err, refl}
use Rattle.std.specs.Prelude.{codes, drop, take, length, map, ◌-◌}
use Rattle.std.specs.Float.Numeral.{scan_numeral}
use Rattle.std.specs.Fmt.{digits}
use Rattle.json.specs.Json.{items, members, value}
use Rattle.json.specs.Lex.{lex, punctuate}
use Rattle.json.specs.Text.{code_unit, short_escape, content}
use Rattle.json.specs.Word.{after_number, word}
use lib.Utf8.{encode}
use Rattle.serde_json.specs.Read.{number_of}
use Rattle.nmvs_rules.specs.declared.entry.Entry.{Entry}
use Rattle.nmvs_line.specs.declared.line_version.LineVersion.TheVariants as version
use Rattle.nmvs_line.specs.Line.{entry_line, line_in}
use Rattle.nmvs_reader.specs.declared.entry_fault.EntryFault.{EntryFault}
use Rattle.nmvs_reader.specs.declared.entry_fault.EntryFault.TheVariants as fault
use Rattle.nmvs_reader.specs.Reading.{reading}
use Rattle.nmvs_tests.proofs.Gives.{Gives}

-- lines of version 1: an upload, a verification, a hold, a reversion and an audit
abbrev upload : List ℕ
upload = codes "[1767225600,\"mah1\",\"HOLDER\",\"MAH-1\",\"HQ\",[\"UPLOAD\",\"09506000134352\",\"SN1\",\"B1\",\"280200\"],[\"UPLOADED\"]]"

abbrev verify : List ℕ
verify = codes "[1767225600,\"ph1\",\"PHARMACY\",\"PH-1\",\"P1\",[\"VERIFY\",\"09506000134352\",\"SN1\"],[\"AUTHENTIC\",\"B1\",\"280200\",\"VALID\"]]"

abbrev hold : List ℕ
hold = codes "[1767225600,\"ph1\",\"PHARMACY\",\"PH-1\",\"P1\",[\"HOLD\",\"09506000134352\",\"SN1\"],[\"DECOMMISSIONED\"]]"

abbrev revert : List ℕ
revert = codes "[1767225600,\"ph1b\",\"PHARMACY\",\"PH-1\",\"P1\",[\"REVERT\",\"09506000134352\",\"SN1\"],[\"REVERTED\"]]"

abbrev audit : List ℕ
audit = codes "[1767225600,\"au1\",\"AUTHORITY\",\"AU-1\",\"A1\",[\"AUDIT\",\"09506000134352\",\"SN1\"],[\"SHOWN\",4]]"

-- the same in version 2, and in version 3 with the tag a17
abbrev newer : List ℕ → List ℕ
newer line = codes "[2," ++ drop 1 line

abbrev tagged : List ℕ → List ℕ
tagged line = codes "[3," ++ (drop 1 (take (length line - 1) line) ++ codes ",\"a17\"]")

abbrev map_ok : {A : Type 0} → (Entry → A) → Result Entry EntryFault → Result A EntryFault
map_ok f (Ok e) = Ok (f e)
map_ok f (Err fault) = Err fault

-- a line of version 1 is written anew in version 2, and in version 1 as it was
anew : Gives (λ line. map_ok entry_line (reading line)) (
    (upload, Ok (newer upload))
    ∷ (verify, Ok (newer verify))
    ∷ (hold, Ok (newer hold))
    ∷ (revert, Ok (newer revert))
    ∷ (audit, Ok (newer audit))
    ∷ [])
unfolding reading line_in digits scan_numeral number_of items members value lex punctuate encode code_unit short_escape content after_number word
anew = refl

as-it-was : Gives (λ line. map_ok (line_in version.One) (reading line)) (
    (upload, Ok upload)
    ∷ (verify, Ok verify)
    ∷ (hold, Ok hold)
    ∷ (revert, Ok revert)
    ∷ (audit, Ok audit)
    ∷ [])
unfolding reading line_in digits scan_numeral number_of items members value lex punctuate encode code_unit short_escape content after_number word
as-it-was = refl

-- the line of version 2 means the same
abbrev lines : List (List ℕ)
lines = upload ∷ verify ∷ hold ∷ revert ∷ audit ∷ []

same-meaning : map (λ line. reading (newer line)) lines ≡ map reading lines
unfolding reading line_in digits scan_numeral number_of items members value lex punctuate encode code_unit short_escape content after_number word
same-meaning = refl

-- a line with a tag is the entry with that tag, and is written as it was
with-tag : map (λ line. reading (tagged line)) lines
    ≡ map (λ line. map_ok (λ e. record e { put = record e.put { tag = Some (record { bytes = codes "a17" }) } }) (reading line)) lines
unfolding reading line_in digits scan_numeral number_of items members value lex punctuate encode code_unit short_escape content after_number word
with-tag = refl

tagged-written : map (λ line. map_ok entry_line (reading (tagged line))) lines ≡ map (λ line. Ok (tagged line)) lines
unfolding reading line_in digits scan_numeral number_of items members value lex punctuate encode code_unit short_escape content after_number word
tagged-written = refl

abbrev err_of : Result Entry EntryFault → Option EntryFault
err_of (Ok e) = None
err_of (Err fault) = Some fault

abbrev fault_of : List ℕ → Option EntryFault
fault_of line = err_of (reading line)

no-entries : Gives fault_of (
    (codes "", Some fault.Json)
    ∷ (codes "[1", Some fault.Json)
    ∷ (codes "[1]", Some fault.Shape)
    ∷ (codes "{}", Some fault.Shape)
    ∷ [])
unfolding reading line_in digits scan_numeral number_of items members value lex punctuate encode code_unit short_escape content after_number word
no-entries = refl

-- the number of a version before a verification of version 1
versions : Gives fault_of (
    (codes "[4,1767225600,\"ph1\",\"PHARMACY\",\"PH-1\",\"P1\",[\"VERIFY\",\"09506000134352\",\"SN1\"],[\"AUTHENTIC\",\"B1\",\"280200\",\"VALID\"]]", Some fault.Version)
    ∷ (codes "[1,1767225600,\"ph1\",\"PHARMACY\",\"PH-1\",\"P1\",[\"VERIFY\",\"09506000134352\",\"SN1\"],[\"AUTHENTIC\",\"B1\",\"280200\",\"VALID\"]]", Some fault.Version)
    ∷ (codes "[3,1767225600,\"ph1\",\"PHARMACY\",\"PH-1\",\"P1\",[\"VERIFY\",\"09506000134352\",\"SN1\"],[\"AUTHENTIC\",\"B1\",\"280200\",\"VALID\"]]", Some fault.Shape)
    ∷ (codes "[18446744073709551615,1767225600,\"ph1\",\"PHARMACY\",\"PH-1\",\"P1\",[\"VERIFY\",\"09506000134352\",\"SN1\"],[\"AUTHENTIC\",\"B1\",\"280200\",\"VALID\"]]", Some fault.Version)
    ∷ (codes "[-2,1767225600,\"ph1\",\"PHARMACY\",\"PH-1\",\"P1\",[\"VERIFY\",\"09506000134352\",\"SN1\"],[\"AUTHENTIC\",\"B1\",\"280200\",\"VALID\"]]", Some fault.Shape)
    ∷ (codes "[\"2\",1767225600,\"ph1\",\"PHARMACY\",\"PH-1\",\"P1\",[\"VERIFY\",\"09506000134352\",\"SN1\"],[\"AUTHENTIC\",\"B1\",\"280200\",\"VALID\"]]", Some fault.Shape)
    ∷ (codes "[2,2,1767225600,\"ph1\",\"PHARMACY\",\"PH-1\",\"P1\",[\"VERIFY\",\"09506000134352\",\"SN1\"],[\"AUTHENTIC\",\"B1\",\"280200\",\"VALID\"]]", Some fault.Shape)
    ∷ (codes "[2, 1767225600,\"ph1\",\"PHARMACY\",\"PH-1\",\"P1\",[\"VERIFY\",\"09506000134352\",\"SN1\"],[\"AUTHENTIC\",\"B1\",\"280200\",\"VALID\"]]", Some fault.Spelling)
    ∷ (codes "[ 2,1767225600,\"ph1\",\"PHARMACY\",\"PH-1\",\"P1\",[\"VERIFY\",\"09506000134352\",\"SN1\"],[\"AUTHENTIC\",\"B1\",\"280200\",\"VALID\"]]", Some fault.Spelling)
    ∷ [])
unfolding reading line_in digits scan_numeral number_of items members value lex punctuate encode code_unit short_escape content after_number word
versions = refl

-- an unknown version comes before the shape
version-first : Gives fault_of (
    (codes "[4,1,2,3,4,5,6,7]", Some fault.Version)
    ∷ (codes "[4,1,2,3,4,5,6,7,8]", Some fault.Version)
    ∷ (codes "[2,1,2,3,4,5,6,7]", Some fault.Shape)
    ∷ (codes "[2,1,2,3,4,5,6,7,8]", Some fault.Shape)
    ∷ (codes "[3,1,2,3,4,5,6,7,8]", Some fault.Shape)
    ∷ [])
unfolding reading line_in digits scan_numeral number_of items members value lex punctuate encode code_unit short_escape content after_number word
version-first = refl

-- changes of a line with the tag a17
tags : Gives fault_of (
    (codes "[3,1767225600,\"ph1\",\"PHARMACY\",\"PH-1\",\"P1\",[\"VERIFY\",\"09506000134352\",\"SN1\"],[\"AUTHENTIC\",\"B1\",\"280200\",\"VALID\"],\"#17\"]", Some fault.Value)
    ∷ (codes "[3,1767225600,\"ph1\",\"PHARMACY\",\"PH-1\",\"P1\",[\"VERIFY\",\"09506000134352\",\"SN1\"],[\"AUTHENTIC\",\"B1\",\"280200\",\"VALID\"],\"\"]", Some fault.Value)
    ∷ (codes "[3,1767225600,\"ph1\",\"PHARMACY\",\"PH-1\",\"P1\",[\"VERIFY\",\"09506000134352\",\"SN1\"],[\"AUTHENTIC\",\"B1\",\"280200\",\"VALID\"],17]", Some fault.Shape)
    ∷ (codes "[3,1767225600,\"ph1\",\"PHARMACY\",\"PH-1\",\"P1\",[\"VERIFY\",\"09506000134352\",\"SN1\"],[\"AUTHENTIC\",\"B1\",\"280200\",\"VALID\"]]", Some fault.Shape)
    ∷ (codes "[2,1767225600,\"ph1\",\"PHARMACY\",\"PH-1\",\"P1\",[\"VERIFY\",\"09506000134352\",\"SN1\"],[\"AUTHENTIC\",\"B1\",\"280200\",\"VALID\"],\"a17\"]", Some fault.Shape)
    ∷ (codes "[4,1767225600,\"ph1\",\"PHARMACY\",\"PH-1\",\"P1\",[\"VERIFY\",\"09506000134352\",\"SN1\"],[\"AUTHENTIC\",\"B1\",\"280200\",\"VALID\"],\"a17\"]", Some fault.Version)
    ∷ (codes "[1767225600,\"ph1\",\"PHARMACY\",\"PH-1\",\"P1\",[\"VERIFY\",\"09506000134352\",\"SN1\"],[\"AUTHENTIC\",\"B1\",\"280200\",\"VALID\"],\"a17\"]", Some fault.Version)
    ∷ (codes "[3,1767225600,\"ph1\",\"PHARMACY\",\"PH-1\",\"P1\",[\"VERIFY\",\"09506000134352\",\"SN1\"],[\"AUTHENTIC\",\"B1\",\"280200\",\"VALID\"],\"\\u006117\"]", Some fault.Spelling)
    ∷ (codes "[3,1767225600,\"ph1\",\"PHARMACY\",\"PH-1\",\"P1\",[\"VERIFY\",\"09506000134352\",\"SN1\"],[\"AUTHENTIC\",\"B1\",\"280200\",\"VALID\"],\"a17\" ]", Some fault.Spelling)
    ∷ [])
unfolding reading line_in digits scan_numeral number_of items members value lex punctuate encode code_unit short_escape content after_number word
tags = refl

-- changes of the line of a verification
changes : Gives fault_of (
    (codes "[1767225600, \"ph1\",\"PHARMACY\",\"PH-1\",\"P1\",[\"VERIFY\",\"09506000134352\",\"SN1\"],[\"AUTHENTIC\",\"B1\",\"280200\",\"VALID\"]]", Some fault.Spelling)
    ∷ (codes "[1767225600,\"\\u0070h1\",\"PHARMACY\",\"PH-1\",\"P1\",[\"VERIFY\",\"09506000134352\",\"SN1\"],[\"AUTHENTIC\",\"B1\",\"280200\",\"VALID\"]]", Some fault.Spelling)
    ∷ (codes "[1767225600,\"ph1\",\"PHARMACY\",\"PH-1\",\"P1\",[\"VERIFY\",\"09506000134352\",\"SN1\"],[\"AUTHENTIC\",\"B1\",\"280200\",\"VALID\"]]\n", Some fault.Spelling)
    ∷ (codes "[1767225600,\"ph1\",\"PHARMACY\",\"PH-1\",\"P1\",[\"VERIFY\",\"09506000134353\",\"SN1\"],[\"AUTHENTIC\",\"B1\",\"280200\",\"VALID\"]]", Some fault.Value)
    ∷ (codes "[1767225600,\"ph1\",\"PHARMACY\",\"PH-1\",\"P1\",[\"VERIFY\",\"09506000134352\",\"SN 1\"],[\"AUTHENTIC\",\"B1\",\"280200\",\"VALID\"]]", Some fault.Value)
    ∷ (codes "[1767225600,\"ph1\",\"PHARMACY\",\"PH-1\",\"P1\",[\"VERIFY\",\"09506000134352\",\"SN\u{7f}1\"],[\"AUTHENTIC\",\"B1\",\"280200\",\"VALID\"]]", Some fault.Value)
    ∷ (codes "[4102444800,\"ph1\",\"PHARMACY\",\"PH-1\",\"P1\",[\"VERIFY\",\"09506000134352\",\"SN1\"],[\"AUTHENTIC\",\"B1\",\"280200\",\"VALID\"]]", Some fault.Value)
    ∷ (codes "[1767225600,\"ph1\",\"PHARMACY\",\"PH-1\",\"P1\",[\"VERIFY\",\"09506000134352\",\"SN1\"],[\"AUTHENTIC\",\"B1\",\"281300\",\"VALID\"]]", Some fault.Value)
    ∷ (codes "[-1767225600,\"ph1\",\"PHARMACY\",\"PH-1\",\"P1\",[\"VERIFY\",\"09506000134352\",\"SN1\"],[\"AUTHENTIC\",\"B1\",\"280200\",\"VALID\"]]", Some fault.Shape)
    ∷ (codes "[1767225600,\"ph1\",\"DOCTOR\",\"PH-1\",\"P1\",[\"VERIFY\",\"09506000134352\",\"SN1\"],[\"AUTHENTIC\",\"B1\",\"280200\",\"VALID\"]]", Some fault.Shape)
    ∷ (codes "[1767225600,\"ph1\",\"PHARMACY\",\"PH-1\",\"P1\",[\"verify\",\"09506000134352\",\"SN1\"],[\"AUTHENTIC\",\"B1\",\"280200\",\"VALID\"]]", Some fault.Shape)
    ∷ (codes "[1767225600,\"ph1\",\"PHARMACY\",\"PH-1\",\"P1\",[\"VERIFY\",\"09506000134352\",\"SN1\",\"SN1\"],[\"AUTHENTIC\",\"B1\",\"280200\",\"VALID\"]]", Some fault.Shape)
    ∷ (codes "[1767225600,\"ph1\",\"PHARMACY\",\"PH-1\",\"P1\",[\"VERIFY\",\"09506000134352\",\"SN1\"],[\"AUTHENTIC\",\"B1\",\"280200\",true]]", Some fault.Shape)
    ∷ [])
unfolding reading line_in digits scan_numeral number_of items members value lex punctuate encode code_unit short_escape content after_number word
changes = refl
