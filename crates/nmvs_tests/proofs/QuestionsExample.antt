-- Questions of JSON, and the lines that they mean.
use Rattle.std.proofs.Common.{◌≡◌, ℕ, List, [], ◌∷◌, ◌++◌, Option, Some, None, Result, Ok, Err, refl}
use Rattle.std.specs.Prelude.{codes, option_map, option_and_then}
use Rattle.std.specs.Str.{chars, is_utf8}
use lib.Utf8.{encode}
use Rattle.json.specs.Json.{items, members, value}
use Rattle.json.specs.Lex.{lex, punctuate}
use Rattle.json.specs.Text.{code_unit, short_escape, content}
use Rattle.json.specs.Word.{after_number, word}
use Rattle.nmvs_elements.specs.declared.identifiers.ApplicationIdentifier.TheVariants as element
use Rattle.nmvs_elements.specs.declared.fault.ScanFault.TheVariants as scan_fault
use Rattle.nmvs_json.specs.declared.question_fault.QuestionFault.{QuestionFault}
use Rattle.nmvs_json.specs.declared.question_fault.QuestionFault.TheVariants as fault
use Rattle.nmvs_json.specs.declared.refusal.Member.{Member}
use Rattle.nmvs_json.specs.declared.refusal.Member.TheVariants as member
use Rattle.nmvs_json.specs.declared.refusal.Refusal.{Refusal}
use Rattle.nmvs_json.specs.Bulks.{bulk_lines, item_line, item_subject}
use Rattle.nmvs_json.specs.Questions.{asked_at, kind_named, question_line, fields_of, subject_of, subject_count, condition_texts, scanned_of, subject_in, printed_in, wrong_member}
use Rattle.nmvs_json.specs.declared.subject.Subject.{Subject}
use Rattle.nmvs_json.specs.Scans.{Scanned, scan_in}
use Rattle.nmvs_tests.proofs.Gives.{Gives}

abbrev Read : Type 0
Read = Result (Subject × List ℕ) Refusal

abbrev line_in : Read → Result (List ℕ) QuestionFault
line_in (Ok question) = Ok question.1
line_in (Err refusal) = Err refusal.fault

-- the line of a question at this path with this body, and no key
abbrev line_at : List ℕ × List ℕ → Option (Result (List ℕ) QuestionFault)
line_at ask = option_map (λ kind. line_in (question_line kind None ask.1)) (asked_at ask.0)

abbrev pack : List ℕ
pack = codes "{\"user\":\"ph1\",\"code\":\"09506000134352\",\"serial\":\"SN1\"}"

abbrev batch : List ℕ
batch = codes "{\"user\":\"mah1\",\"code\":\"09506000134352\",\"batch\":\"B\\/1\"}"

lines : Gives line_at (
    ((codes "/v1/upload", codes " {\"expiry\":\"280200\",\"batch\":\"B1\",\n\"serial\":\"\\u0053N1\",\"code\":\"09506000134352\",\"user\":\"mah1\"} "), Some (Ok (codes "mah1 UPLOAD 09506000134352 SN1 B1 280200\n")))
    ∷ ((codes "/v1/verify", pack), Some (Ok (codes "ph1 VERIFY 09506000134352 SN1\n")))
    ∷ ((codes "/v1/status", pack), Some (Ok (codes "ph1 STATUS 09506000134352 SN1\n")))
    ∷ ((codes "/v1/supply", pack), Some (Ok (codes "ph1 SUPPLY 09506000134352 SN1\n")))
    ∷ ((codes "/v1/hold", pack), Some (Ok (codes "ph1 HOLD 09506000134352 SN1\n")))
    ∷ ((codes "/v1/handover", pack), Some (Ok (codes "ph1 HANDOVER 09506000134352 SN1\n")))
    ∷ ((codes "/v1/export", pack), Some (Ok (codes "ph1 EXPORT 09506000134352 SN1\n")))
    ∷ ((codes "/v1/sample", pack), Some (Ok (codes "ph1 SAMPLE 09506000134352 SN1\n")))
    ∷ ((codes "/v1/destroy", pack), Some (Ok (codes "ph1 DESTROY 09506000134352 SN1\n")))
    ∷ ((codes "/v1/revert", pack), Some (Ok (codes "ph1 REVERT 09506000134352 SN1\n")))
    ∷ ((codes "/v1/theft", pack), Some (Ok (codes "ph1 THEFT 09506000134352 SN1\n")))
    ∷ ((codes "/v1/audit", pack), Some (Ok (codes "ph1 AUDIT 09506000134352 SN1\n")))
    ∷ ((codes "/v1/recall", batch), Some (Ok (codes "mah1 RECALL 09506000134352 B/1\n")))
    ∷ ((codes "/v1/withdraw", batch), Some (Ok (codes "mah1 WITHDRAW 09506000134352 B/1\n")))
    ∷ ((codes "/v1/report", codes "{\"user\":\"nca1\",\"code\":\"09506000134352\"}"), Some (Ok (codes "nca1 REPORT 09506000134352\n")))
    ∷ [])
unfolding chars encode is_utf8 items members value lex punctuate code_unit short_escape content after_number word kind_named question_line fields_of subject_of subject_count condition_texts scanned_of subject_in printed_in scan_in
lines = refl

no-paths : Gives asked_at (
    (codes "/v1/lines", None)
    ∷ (codes "/v1/VERIFY", None)
    ∷ (codes "/v1/", None)
    ∷ (codes "/v1", None)
    ∷ (codes "/v2/verify", None)
    ∷ (codes "verify", None)
    ∷ [])
unfolding kind_named
no-paths = refl

-- a key is the tag of the line
abbrev with_key : List ℕ → List ℕ × List ℕ → Option (Result (List ℕ) QuestionFault)
with_key key ask = option_map (λ kind. line_in (question_line kind (Some key) ask.1)) (asked_at ask.0)

key : with_key (codes "a17") (codes "/v1/verify", pack) ≡ Some (Ok (codes "#a17 ph1 VERIFY 09506000134352 SN1\n"))
unfolding chars encode is_utf8 items members value lex punctuate code_unit short_escape content after_number word kind_named question_line fields_of subject_of subject_count condition_texts scanned_of subject_in printed_in scan_in
key = refl

no-keys : Gives (λ key. with_key key (codes "/v1/report", [])) (
    (codes "", Some (Err fault.Key))
    ∷ (codes "-a", Some (Err fault.Key))
    ∷ (codes "a b", Some (Err fault.Key))
    ∷ (codes "12345678901234567890123456789012345678901", Some (Err fault.Key))
    ∷ [])
unfolding chars encode is_utf8 items members value lex punctuate code_unit short_escape content after_number word kind_named question_line fields_of subject_of subject_count condition_texts scanned_of subject_in printed_in scan_in
no-keys = refl

faults : Gives (λ body. line_at (codes "/v1/report", body)) (
    (codes "", Some (Err fault.Json))
    ∷ (codes "{\"user\":\"nca1\",\"code\":\"1\"", Some (Err fault.Json))
    ∷ (codes "[\"nca1\",\"1\"]", Some (Err fault.Json))
    ∷ (codes "{\"user\":\"nca1\",\"code\":\"1\",\"code\":\"1\"}", Some (Err fault.Json))
    ∷ (codes "{\"user\":\"nca1\",\"code\":\"1\",\"\\u0063ode\":\"1\"}", Some (Err fault.Json))
    ∷ (codes "{\"user\":\"nca1\"}", Some (Err fault.Fields))
    ∷ (codes "{\"user\":\"nca1\",\"Code\":\"1\"}", Some (Err fault.Fields))
    ∷ (codes "{\"user\":\"nca1\",\"code\":\"1\",\"serial\":\"1\"}", Some (Err fault.Fields))
    ∷ (codes "{\"user\":\"nca1\",\"code\":1}", Some (Err fault.Fields))
    ∷ (codes "{\"user\":\"nca1\",\"code\":\"\"}", Some (Err fault.Fields))
    ∷ (codes "{\"user\":\"nca1\",\"code\":\"1 2\"}", Some (Err fault.Fields))
    ∷ (codes "{\"user\":\"nca1\",\"code\":\"1\\nnca1\"}", Some (Err fault.Fields))
    ∷ (codes "{\"user\":\"#t\",\"code\":\"1\"}", Some (Err fault.Fields))
    ∷ (codes "{\"user\":\"nca1\",\"code\":\"" ++ 195 ∷ 169 ∷ codes "\"}", Some (Err fault.Fields))
    ∷ (34 ∷ 255 ∷ 34 ∷ [], Some (Err fault.Json))
    ∷ [])
unfolding chars encode is_utf8 items members value lex punctuate code_unit short_escape content after_number word kind_named question_line fields_of subject_of subject_count condition_texts scanned_of subject_in printed_in scan_in
faults = refl

-- a scan is the code and the serial of its pack, and - for both if it is none
abbrev supply : List ℕ → Option (Result (List ℕ) QuestionFault)
supply body = line_at (codes "/v1/supply", body)

abbrev scanned : List ℕ → List ℕ
scanned scan = codes "{\"scan\":\"" ++ (scan ++ codes "\",\"user\":\"ph1\"}")

abbrev scan_line : List ℕ → Option (Result (List ℕ) QuestionFault)
scan_line scan = supply (scanned scan)

scans : Gives scan_line (
    (codes "]d201095060001343521728020010B1\\u001d21SN1", Some (Ok (codes "ph1 SUPPLY 09506000134352 SN1\n")))
    ∷ (codes "]C1010950600013435221SN1\\u001d10B1\\u001d17280200", Some (Ok (codes "ph1 SUPPLY 09506000134352 SN1\n")))
    ∷ (codes "]Q310B1\\u001D21SN1\\u001d17280200\\u001d0109506000134352", Some (Ok (codes "ph1 SUPPLY 09506000134352 SN1\n")))
    ∷ (codes "]e0\\u001d0109506000134352\\u001d21SN1\\u001d1728020010B1", Some (Ok (codes "ph1 SUPPLY 09506000134352 SN1\n")))
    ∷ (codes "010950600013435210B1\\u001d1728020021SN1\\u001d", Some (Ok (codes "ph1 SUPPLY 09506000134352 SN1\n")))
    ∷ (codes "]d2010950600013435217280200\\u0031\\u0030B1\\u001d21SN1", Some (Ok (codes "ph1 SUPPLY 09506000134352 SN1\n")))
    ∷ [])
unfolding chars encode is_utf8 items members value lex punctuate code_unit short_escape content after_number word kind_named question_line fields_of subject_of subject_count condition_texts scanned_of subject_in printed_in scan_in
scans = refl

no-scans : Gives scan_line (
    (codes "", Some (Ok (codes "ph1 SUPPLY - -\n")))
    ∷ (codes "]d1010950600013435217280200", Some (Ok (codes "ph1 SUPPLY - -\n")))
    ∷ (codes "]E00109506000134352", Some (Ok (codes "ph1 SUPPLY - -\n")))
    ∷ (codes "]d201095060001343521728020010B121SN1", Some (Ok (codes "ph1 SUPPLY - -\n")))
    ∷ (codes "]d201095060001343531728020010B1\\u001d21SN1", Some (Ok (codes "ph1 SUPPLY - -\n")))
    ∷ (codes "]d2010950600013435217281300\\u001d10B1\\u001d21SN1", Some (Ok (codes "ph1 SUPPLY - -\n")))
    ∷ (codes "]d2010950600013435210B1\\u001d21SN1", Some (Ok (codes "ph1 SUPPLY - -\n")))
    ∷ (codes "]d201095060001343521728020010B1\\u001d21SN1\\u001d21SN2", Some (Ok (codes "ph1 SUPPLY - -\n")))
    ∷ (codes "]d201095060001343521728020010B1\\u001d21SN1\\u001d712123", Some (Ok (codes "ph1 SUPPLY - -\n")))
    ∷ (codes "]d201095060001343521728020010B1\\n21SN1", Some (Ok (codes "ph1 SUPPLY - -\n")))
    ∷ [])
unfolding chars encode is_utf8 items members value lex punctuate code_unit short_escape content after_number word kind_named question_line fields_of subject_of subject_count condition_texts scanned_of subject_in printed_in scan_in
no-scans = refl

scans-misplaced : Gives line_at (
    ((codes "/v1/verify", codes "{\"user\":\"ph1\",\"scan\":\"]d201095060001343521728020010B1\\u001d21SN1\",\"code\":\"09506000134352\"}"), Some (Err fault.Fields))
    ∷ ((codes "/v1/verify", codes "{\"user\":\"ph1\",\"scan\":\"]d201095060001343521728020010B1\\u001d21SN1\",\"serial\":\"SN1\"}"), Some (Err fault.Fields))
    ∷ ((codes "/v1/recall", codes "{\"user\":\"ph1\",\"scan\":\"]d201095060001343521728020010B1\\u001d21SN1\",\"batch\":\"B1\"}"), Some (Err fault.Fields))
    ∷ ((codes "/v1/report", codes "{\"user\":\"ph1\",\"scan\":\"]d201095060001343521728020010B1\\u001d21SN1\"}"), Some (Err fault.Fields))
    ∷ ((codes "/v1/upload", codes "{\"user\":\"ph1\",\"scan\":\"]d201095060001343521728020010B1\\u001d21SN1\",\"batch\":\"B1\",\"expiry\":\"280200\"}"), Some (Err fault.Fields))
    ∷ ((codes "/v1/verify", codes "{\"user\":\"ph1\",\"scan\":1}"), Some (Err fault.Fields))
    ∷ [])
unfolding chars encode is_utf8 items members value lex punctuate code_unit short_escape content after_number word kind_named question_line fields_of subject_of subject_count condition_texts scanned_of subject_in printed_in scan_in
scans-misplaced = refl

-- misread values end the line, which then has their fault
misread : Gives supply (
    (codes "{\"user\":\"ph1\",\"code\":\"1\",\"serial\":\"2\",\"scanned\":{\"batch\":\"B1\",\"expiry\":\"281300\"}}", Some (Ok (codes "ph1 SUPPLY 1 2 IF B1 281300\n")))
    ∷ (codes "{\"user\":\"ph1\",\"code\":\"1\",\"serial\":\"2\",\"scanned\":{\"expiry\":\"280200\",\"batch\":\"B#1\"}}", Some (Ok (codes "ph1 SUPPLY 1 2 IF B#1 280200\n")))
    ∷ (codes "{\"user\":\"ph1\",\"code\":\"1\",\"serial\":\"2\",\"if_scanned\":\"matches\",\"scanned\":{\"batch\":\"B1\",\"expiry\":\"2\"}}", Some (Ok (codes "ph1 SUPPLY 1 2 IF B1 2\n")))
    ∷ (codes "{\"user\":\"ph1\",\"code\":\"1\",\"serial\":\"2\",\"scanned\":{\"batch\":\"B1\",\"expiry\":\"280200\"}}", Some (Ok (codes "ph1 SUPPLY 1 2\n")))
    ∷ [])
unfolding chars encode is_utf8 items members value lex punctuate code_unit short_escape content after_number word kind_named question_line fields_of subject_of subject_count condition_texts scanned_of subject_in printed_in scan_in
misread = refl

-- a condition ends the line
conditions : Gives supply (
    (codes "{\"user\":\"ph1\",\"scan\":\"]d201095060001343521728020010B1\\u001d21SN1\",\"if_scanned\":\"matches\"}", Some (Ok (codes "ph1 SUPPLY 09506000134352 SN1 IF B1 280200\n")))
    ∷ (codes "{\"user\":\"ph1\",\"code\":\"1\",\"serial\":\"2\",\"if_scanned\":\"matches\",\"scanned\":{\"batch\":\"B/2\",\"expiry\":\"251231\"}}", Some (Ok (codes "ph1 SUPPLY 1 2 IF B/2 251231\n")))
    ∷ (codes "{\"user\":\"ph1\",\"if_scanned\":\"matches\",\"scan\":\"\"}", Some (Ok (codes "ph1 SUPPLY - - IF - -\n")))
    ∷ [])
unfolding chars encode is_utf8 items members value lex punctuate code_unit short_escape content after_number word kind_named question_line fields_of subject_of subject_count condition_texts scanned_of subject_in printed_in scan_in
conditions = refl

no-conditions : Gives supply (
    (codes "{\"user\":\"ph1\",\"scan\":\"]d201095060001343521728020010B1\\u001d21SN1\",\"if_scanned\":\"matches\",\"scanned\":{\"batch\":\"B1\",\"expiry\":\"280200\"}}", Some (Err fault.Fields))
    ∷ (codes "{\"user\":\"ph1\",\"code\":\"1\",\"serial\":\"2\",\"if_scanned\":\"matches\"}", Some (Err fault.Fields))
    ∷ (codes "{\"user\":\"ph1\",\"code\":\"1\",\"serial\":\"2\",\"if_scanned\":\"matches\",\"scanned\":{\"batch\":\"B1\"}}", Some (Err fault.Fields))
    ∷ (codes "{\"user\":\"ph1\",\"code\":\"1\",\"serial\":\"2\",\"if_scanned\":\"matches\",\"scanned\":{\"batch\":\"\",\"expiry\":\"280200\"}}", Some (Err fault.Fields))
    ∷ (codes "{\"user\":\"ph1\",\"code\":\"1\",\"serial\":\"2\",\"scanned\":{\"batch\":\"B 1\",\"expiry\":\"280200\"}}", Some (Err fault.Fields))
    ∷ (codes "{\"user\":\"ph1\",\"code\":\"1\",\"serial\":\"2\",\"scanned\":{\"batch\":\"B1\"}}", Some (Err fault.Fields))
    ∷ (codes "{\"user\":\"ph1\",\"code\":\"1\",\"serial\":\"2\",\"if_scanned\":\"differs\",\"scanned\":{\"batch\":\"B1\",\"expiry\":\"280200\"}}", Some (Err fault.Fields))
    ∷ [])
unfolding chars encode is_utf8 items members value lex punctuate code_unit short_escape content after_number word kind_named question_line fields_of subject_of subject_count condition_texts scanned_of subject_in printed_in scan_in
no-conditions = refl

-- the scanned values of a question are those of its scan, or its fault
abbrev values_in : Read → Option (Option Scanned)
values_in (Ok question) = Some question.0.scanned
values_in (Err f) = None

abbrev values_at : List ℕ → Option (Option Scanned)
values_at body = option_and_then (λ kind. values_in (question_line kind None body)) (asked_at (codes "/v1/verify"))

abbrev printed : List ℕ → List ℕ → Option Scanned
printed b x = Some (Ok (record { batch = record { bytes = b }; expiry = record { bytes = x } }))

values : Gives values_at (
    (codes "{\"user\":\"ph1\",\"code\":\"1\",\"serial\":\"2\"}", Some None)
    ∷ (codes "{\"user\":\"ph1\",\"scan\":\"]d201095060001343521728020010B1\\u001d21SN1\"}", Some (printed (codes "B1") (codes "280200")))
    ∷ (codes "{\"user\":\"ph1\",\"scan\":\"\"}", Some (Some (Err (scan_fault.Missing element.Code))))
    ∷ (codes "{\"user\":\"ph1\",\"code\":\"1\",\"serial\":\"2\",\"scanned\":{\"batch\":\"B1\",\"expiry\":\"281300\"}}", Some None)
    ∷ [])
unfolding chars encode is_utf8 items members value lex punctuate code_unit short_escape content after_number word kind_named question_line fields_of subject_of subject_count condition_texts scanned_of subject_in printed_in scan_in
values = refl

unread : Gives (λ scan. values_at (scanned scan)) (
    (codes "]d20109506000134352xxxxxxxxxxxxxxxxxxxxxxxxxxxxxxxxxxxxxxxxxxxxxxxxxxxxxxxxxxxxxxxxxxxxxxxxxxxxxxxxxx", Some (Some (Err scan_fault.Long)))
    ∷ (codes "]d10109506000134352", Some (Some (Err scan_fault.PlainDataMatrix)))
    ∷ (codes "]E00109506000134352", Some (Some (Err scan_fault.Symbology)))
    ∷ (codes "5901234123457", Some (Some (Err scan_fault.NoElement)))
    ∷ (codes "]d2\\u001d0109506000134352712123", Some (Some (Err (scan_fault.Element 20))))
    ∷ (codes "01095060001343521728020", Some (Some (Err (scan_fault.Short element.Expiry))))
    ∷ (codes "10B1\\u001d10B1", Some (Some (Err (scan_fault.Twice element.Batch))))
    ∷ (codes "010950600013435210B121SN1", Some (Some (Err (scan_fault.Missing element.Serial))))
    ∷ (codes "010950600013435310B1\\u001d21SN1\\u001d17281300", Some (Some (Err (scan_fault.Value element.Code))))
    ∷ [])
unfolding chars encode is_utf8 items members value lex punctuate code_unit short_escape content after_number word kind_named question_line fields_of subject_of subject_count condition_texts scanned_of subject_in printed_in scan_in
unread = refl

-- a refusal names the first member that is missing or wrong, and none if one is too many
abbrev place_in : {T : Type 0} → Result T Refusal → Option (Option ℕ × Option Member)
place_in (Ok read) = None
place_in (Err refusal) = Some (refusal.item, refusal.member)

abbrev place_at : List ℕ → Option (Option ℕ × Option Member)
place_at body = option_and_then (λ kind. place_in (question_line kind None body)) (asked_at (codes "/v1/supply"))

places : Gives place_at (
    (codes "{\"user\":\"ph1\",\"code\":\"1\",\"serail\":\"2\"}", Some (None, Some member.Serial))
    ∷ (codes "{\"user\":\"ph1\",\"serial\":\"\",\"code\":7}", Some (None, Some member.Code))
    ∷ (codes "{\"code\":\"\",\"serial\":\"2\",\"user\":\"#t\"}", Some (None, Some member.User))
    ∷ (codes "{\"user\":\"ph1\",\"scan\":7}", Some (None, Some member.Scan))
    ∷ (codes "{\"user\":\"ph1\",\"code\":\"1\",\"serial\":\"2\",\"scanned\":{\"batch\":\"B1\"}}", Some (None, Some member.Scanned))
    ∷ (codes "{\"user\":\"ph1\",\"if_scanned\":\"differs\",\"scan\":\"\"}", Some (None, Some member.IfScanned))
    ∷ (codes "{\"user\":\"ph1\",\"code\":\"1\",\"serial\":\"2\",\"batch\":\"B1\"}", Some (None, None))
    ∷ (codes "{", Some (None, None))
    ∷ [])
unfolding chars encode is_utf8 items members value lex punctuate code_unit short_escape content after_number word kind_named question_line fields_of subject_of subject_count condition_texts scanned_of subject_in printed_in wrong_member scan_in
places = refl

-- ---- bulks

abbrev bulk : List ℕ → List ℕ
bulk questions = codes "{\"questions\":[" ++ (questions ++ codes "]}")

abbrev Bulk : Type 0
Bulk = Result (List Subject × List ℕ) Refusal

-- the subject of a question about this product code, if it is one, and with these scanned values
abbrev about : Option (List ℕ) → Option Scanned → Subject
about code scanned = record { code = option_map (λ c. record { bytes = c }) code; scanned = scanned }

bulk-of-one : bulk_lines (bulk (codes "{\"ask\":\"verify\",\"user\":\"ph1\",\"code\":\"09506000134352\",\"serial\":\"SN1\"}"))
    ≡ Ok (about (Some (codes "09506000134352")) None ∷ [], codes "ph1 VERIFY 09506000134352 SN1\n")
unfolding chars encode is_utf8 items members value lex punctuate code_unit short_escape content after_number word kind_named bulk_lines item_line item_subject fields_of subject_of subject_count condition_texts scanned_of subject_in printed_in scan_in
bulk-of-one = refl

bulk-of-two : bulk_lines (bulk (codes "{\"key\":\"a17\",\"serial\":\"A\",\"code\":\"1\",\"user\":\"wh1\",\"ask\":\"export\"},\n{\"ask\":\"recall\",\"user\":\"mah1\",\"code\":\"2\",\"batch\":\"B\"}"))
    ≡ Ok (about None None ∷ about None None ∷ [], codes "#a17 wh1 EXPORT 1 A\nmah1 RECALL 2 B\n")
unfolding chars encode is_utf8 items members value lex punctuate code_unit short_escape content after_number word kind_named bulk_lines item_line item_subject fields_of subject_of subject_count condition_texts scanned_of subject_in printed_in scan_in
bulk-of-two = refl

bulk-of-three : bulk_lines (bulk (codes "{\"ask\":\"upload\",\"user\":\"mah1\",\"code\":\"1\",\"serial\":\"A\",\"batch\":\"B\",\"expiry\":\"2\",\"key\":\"k\"},{\"ask\":\"supply\",\"user\":\"ph1\",\"scan\":\"]d201095060001343521728020010B1\\u001d21SN1\",\"key\":\"k\"},{\"ask\":\"theft\",\"user\":\"mah1\",\"scan\":\"\"}"))
    ≡ Ok (about None None ∷ about (Some (codes "09506000134352")) (printed (codes "B1") (codes "280200")) ∷ about None (Some (Err (scan_fault.Missing element.Code))) ∷ [], codes "#k mah1 UPLOAD 1 A B 2\n#k ph1 SUPPLY 09506000134352 SN1\nmah1 THEFT - -\n")
unfolding chars encode is_utf8 items members value lex punctuate code_unit short_escape content after_number word kind_named bulk_lines item_line item_subject fields_of subject_of subject_count condition_texts scanned_of subject_in printed_in scan_in
bulk-of-three = refl

bulk-with-values : bulk_lines (bulk (codes "{\"ask\":\"verify\",\"user\":\"ph1\",\"code\":\"1\",\"serial\":\"2\"},{\"ask\":\"status\",\"user\":\"ph1\",\"code\":\"1\",\"serial\":\"2\",\"scanned\":{\"expiry\":\"251231\",\"batch\":\"B/2\"}}"))
    ≡ Ok (about None None ∷ about None (printed (codes "B/2") (codes "251231")) ∷ [], codes "ph1 VERIFY 1 2\nph1 STATUS 1 2\n")
unfolding chars encode is_utf8 items members value lex punctuate code_unit short_escape content after_number word kind_named bulk_lines item_line item_subject fields_of subject_of subject_count condition_texts scanned_of subject_in printed_in scan_in
bulk-with-values = refl

-- a bulk is refused whole: a good question stands before each of these
abbrev fault_of : Bulk → Option QuestionFault
fault_of (Ok read) = None
fault_of (Err refusal) = Some refusal.fault

abbrev after_good : List ℕ → Option QuestionFault
after_good item = fault_of (bulk_lines (bulk (codes "{\"ask\":\"verify\",\"user\":\"ph1\",\"code\":\"1\",\"serial\":\"2\"}," ++ item)))

bad-items : Gives after_good (
    (codes "{}", Some fault.Fields)
    ∷ (codes "7", Some fault.Fields)
    ∷ (codes "{\"ask\":\"audit\",\"user\":\"ph1\",\"code\":\"1\",\"serial\":\"2\"}", Some fault.Fields)
    ∷ (codes "{\"ask\":\"report\",\"user\":\"ph1\",\"code\":\"1\"}", Some fault.Fields)
    ∷ (codes "{\"ask\":\"VERIFY\",\"user\":\"ph1\",\"code\":\"1\",\"serial\":\"2\"}", Some fault.Fields)
    ∷ (codes "{\"ask\":\"verify\",\"user\":\"ph1\",\"code\":\"1\",\"serial\":\"2\",\"batch\":\"B\"}", Some fault.Fields)
    ∷ (codes "{\"ask\":\"verify\",\"user\":\"ph1\",\"code\":\"1\",\"serial\":\"2 3\"}", Some fault.Fields)
    ∷ (codes "{\"ask\":\"verify\",\"user\":\"ph1\",\"code\":\"1\",\"serial\":\"2\",\"key\":\"-\"}", Some fault.Key)
    ∷ (codes "{\"ask\":\"verify\",\"user\":\"ph1\",\"code\":\"1\",\"serial\":\"2\",\"key\":7}", Some fault.Key)
    ∷ (codes "{\"ask\":\"verify\",\"user\":\"ph1\",\"code\":\"1\",\"serial\":\"2\",\"ask\":\"verify\"}", Some fault.Json)
    ∷ [])
unfolding chars encode is_utf8 items members value lex punctuate code_unit short_escape content after_number word kind_named bulk_lines item_line item_subject fields_of subject_of subject_count condition_texts scanned_of subject_in printed_in scan_in
bad-items = refl

-- that of a bulk names the first item with a fault too, counted from 0
bulk-places : Gives (λ items. place_in (bulk_lines (bulk items))) (
    (codes "{\"ask\":\"verify\",\"user\":\"ph1\",\"code\":\"1\",\"serial\":2},{}", Some (Some 0, Some member.Serial))
    ∷ (codes "{\"ask\":\"verify\",\"user\":\"ph1\",\"code\":\"1\",\"serial\":\"2\"},{\"ask\":\"VERIFY\",\"user\":\"ph1\",\"code\":\"1\",\"serial\":\"2\"},{}", Some (Some 1, Some member.Ask))
    ∷ (codes "{\"ask\":\"verify\",\"user\":\"ph1\",\"code\":\"1\",\"serial\":\"2\"},{\"ask\":\"verify\",\"user\":\"ph1\",\"code\":\"1\",\"serial\":\"2\",\"key\":7}", Some (Some 1, Some member.Key))
    ∷ (codes "", Some (None, Some member.Questions))
    ∷ [])
unfolding chars encode is_utf8 items members value lex punctuate code_unit short_escape content after_number word kind_named bulk_lines item_line item_subject fields_of subject_of subject_count condition_texts scanned_of subject_in printed_in wrong_member scan_in
bulk-places = refl

no-bulks : Gives (λ body. fault_of (bulk_lines body)) (
    (codes "", Some fault.Json)
    ∷ (codes "[]", Some fault.Json)
    ∷ (codes "{}", Some fault.Fields)
    ∷ (codes "{\"questions\":[]}", Some fault.Fields)
    ∷ (codes "{\"questions\":{}}", Some fault.Fields)
    ∷ (codes "{\"questions\":[],\"user\":\"ph1\"}", Some fault.Fields)
    ∷ [])
unfolding chars encode is_utf8 items members value lex punctuate code_unit short_escape content after_number word kind_named bulk_lines item_line item_subject fields_of subject_of subject_count condition_texts scanned_of subject_in printed_in scan_in
no-bulks = refl
