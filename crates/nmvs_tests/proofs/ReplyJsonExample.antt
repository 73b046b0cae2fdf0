-- The JSON of replies; the texts are written by hand, from the tables of docs/PROTOCOL.md.
use Rattle.std.proofs.Common.{◌≡◌, ℕ, true, false, List, [], ◌∷◌, ◌++◌, Option, Some, None, Ok, Err, refl}
use Rattle.std.specs.Prelude.{codes, map}
use Rattle.std.specs.Fmt.{digits}
use Rattle.nmvs_elements.specs.declared.identifiers.ApplicationIdentifier.TheVariants as element
use Rattle.nmvs_elements.specs.declared.fault.ScanFault.{ScanFault}
use Rattle.nmvs_elements.specs.declared.fault.ScanFault.TheVariants as scan_fault
use Rattle.nmvs_stream.specs.InputLines.{input_lines, lines_after}
use Rattle.nmvs_messages.specs.declared.fault.Problem.{Problem}
use Rattle.nmvs_messages.specs.declared.fault.Problem.TheVariants.{Unprocessable, Forbidden, Conflict, PreconditionFailed, TooManyRequests, Unavailable, Unknown}
use Rattle.nmvs_json.specs.Replies.{body_text, places_of, separated, batch_places, batch_objects, later_members, alert_member, name_member, pack_words, comparison_member, detail_named, detail_of, problem_named, problem_front, type_text, said_text, fault_text, bulk_text, bodies, has_passing, problem_of}
use Rattle.nmvs_json.specs.declared.question_fault.QuestionFault.TheVariants as fault
use Rattle.nmvs_json.specs.declared.refusal.Member.TheVariants as member
use Rattle.nmvs_json.specs.Refusals.{front_of, refusal_text}
use Rattle.nmvs_json.specs.declared.subject.Subject.{Subject}
use Rattle.nmvs_json.specs.Scans.{Scanned}
use Rattle.nmvs_tests.proofs.Gives.{Gives}

-- the subject of a question about a product code, and that of one with scanned values or none
abbrev about : Subject
about = record { code = Some (record { bytes = codes "09506000134352" }); scanned = None }

abbrev with_values : Option Scanned → Subject
with_values scanned = record { code = None; scanned = scanned }

replies : Gives (body_text about) (
    (codes "UPLOADED\n", codes "{\"reply\":\"UPLOADED\"}\n")
    ∷ (codes "NOPACK\n", codes "{\"reply\":\"NOPACK\"}\n")
    ∷ (codes "DECOMMISSIONED\n", codes "{\"reply\":\"DECOMMISSIONED\"}\n")
    ∷ (codes "#a17 HANDED_OVER\n", codes "{\"reply\":\"HANDED_OVER\"}\n")
    ∷ (codes "REVERTED\n", codes "{\"reply\":\"REVERTED\"}\n")
    ∷ (codes "STOLEN\n", codes "{\"reply\":\"STOLEN\"}\n")
    ∷ (codes "AUTHENTIC B1 280200 VALID\n", codes "{\"reply\":\"AUTHENTIC\",\"batch\":\"B1\",\"expiry\":\"280200\",\"validity\":\"VALID\"}\n")
    ∷ (codes "#a17 AUTHENTIC A\"B 280200 EXPIRED\n", codes "{\"reply\":\"AUTHENTIC\",\"batch\":\"A\\\"B\",\"expiry\":\"280200\",\"validity\":\"EXPIRED\"}\n")
    ∷ (codes "ALERT HELD FLAGGED 17\n", codes "{\"reply\":\"ALERT\",\"cause\":\"HELD\",\"flag\":\"FLAGGED\",\"number\":17,\"alert\":\"09506000134352-17\"}\n")
    ∷ (codes "#a17 ALERT RECALLED UNFLAGGED 1\n", codes "{\"reply\":\"ALERT\",\"cause\":\"RECALLED\",\"flag\":\"UNFLAGGED\",\"number\":1,\"alert\":\"09506000134352-1\"}\n")
    ∷ (codes "STATUS HELD FREE SUPPLY B\\1 280200\n", codes "{\"reply\":\"STATUS\",\"own\":\"HELD\",\"lock\":\"FREE\",\"onward\":\"SUPPLY\",\"batch\":\"B\\\\1\",\"expiry\":\"280200\"}\n")
    ∷ (codes "LOCKED 3\n", codes "{\"reply\":\"LOCKED\",\"packs\":3}\n")
    ∷ (codes "REFUSED 7 LOCKED\n", codes "{\"reply\":\"REFUSED\",\"number\":7,\"refusal\":\"LOCKED\"}\n")
    ∷ [])
unfolding body_text places_of separated batch_places batch_objects later_members alert_member name_member pack_words comparison_member detail_named problem_named problem_front type_text said_text fault_text bulk_text bodies problem_of lines_after
replies = refl

-- entries and batches are arrays
lists : Gives (body_text about) (
    (codes "SHOWN 0\n", codes "{\"reply\":\"SHOWN\",\"number\":0,\"entries\":[]}\n")
    ∷ (codes "#a17 SHOWN 2\n[2,1767225600,\"ph1\"]\n[3,1767225601,\"ph1\",\"a17\"]\n", codes "{\"reply\":\"SHOWN\",\"number\":2,\"entries\":[[2,1767225600,\"ph1\"],[3,1767225601,\"ph1\",\"a17\"]]}\n")
    ∷ (codes "PRODUCT 09506000134352 HOLDER - ALERTS 0 FLAGGED 0\nEND\n", codes "{\"reply\":\"PRODUCT\",\"code\":\"09506000134352\",\"holder\":\"-\",\"alerts\":0,\"flagged\":0,\"batches\":[]}\n")
    ∷ (codes "#r PRODUCT 09506000134352 HOLDER MAH-1 ALERTS 1 FLAGGED 0\n#r BATCH B1 RECALLED ACTIVE 0 HELD 1 SUPPLIED 2 EXPORTED 3 SAMPLED 4 DESTROYED 5 STOLEN 6\n#r BATCH \" FREE ACTIVE 7 HELD 0 SUPPLIED 0 EXPORTED 0 SAMPLED 0 DESTROYED 0 STOLEN 0\n#r END\n", codes "{\"reply\":\"PRODUCT\",\"code\":\"09506000134352\",\"holder\":\"MAH-1\",\"alerts\":1,\"flagged\":0,\"batches\":[{\"batch\":\"B1\",\"lock\":\"RECALLED\",\"active\":0,\"held\":1,\"supplied\":2,\"exported\":3,\"sampled\":4,\"destroyed\":5,\"stolen\":6},{\"batch\":\"\\\"\",\"lock\":\"FREE\",\"active\":7,\"held\":0,\"supplied\":0,\"exported\":0,\"sampled\":0,\"destroyed\":0,\"stolen\":0}]}\n")
    ∷ [])
unfolding body_text places_of separated batch_places batch_objects later_members alert_member name_member pack_words comparison_member detail_named problem_named problem_front type_text said_text fault_text bulk_text bodies problem_of lines_after
lists = refl

no-problems : map problem_of (codes "UPLOADED\n" ∷ codes "#a17 SHOWN 2\n[2,1767225600,\"ph1\"]\n[3,1767225601,\"ph1\",\"a17\"]\n" ∷ []) ≡ None ∷ None ∷ []
unfolding body_text places_of separated batch_places batch_objects later_members alert_member name_member pack_words comparison_member detail_named problem_named problem_front type_text said_text fault_text bulk_text bodies problem_of lines_after
no-problems = refl

-- the problem of a fault, and its object
abbrev fault_line : List ℕ → List ℕ
fault_line fault = codes "FAULT " ++ (fault ++ codes "\n")

abbrev of_fault : List ℕ → Option Problem × List ℕ
of_fault fault = (problem_of (fault_line fault), body_text about (fault_line fault))

-- this problem, with this title and status, of a fault that is recorded or not; the texts for a person stand in two rows below
abbrev problem : Problem → List ℕ → List ℕ → List ℕ → Option Problem × List ℕ
problem p title recorded fault = (
  Some p,
  codes "{\"type\":\"/problems#" ++ (fault ++ (codes "\",\"title\":\"" ++ (title ++ (codes ",\"detail\":\"" ++ (detail_of fault ++ (codes "\",\"fault\":\"" ++ (fault ++ (codes "\",\"recorded\":\"" ++ (recorded ++ codes "\"}\n"))))))))),
)

abbrev of_question : List (List ℕ)
of_question =
    codes "USER" ∷ codes "CODE" ∷ codes "SERIAL" ∷ codes "BATCH" ∷ codes "EXPIRY" ∷ codes "LONG" ∷ codes "BYTES" ∷ codes "FIELDS" ∷ codes "WORD" ∷ codes "RETURN" ∷ codes "TAG" ∷ []

unprocessable : map of_fault of_question ≡ map (problem Unprocessable (codes "Unprocessable Content\",\"status\":422") (codes "no")) of_question
unfolding body_text places_of separated batch_places batch_objects later_members alert_member name_member pack_words comparison_member detail_named problem_named problem_front type_text said_text fault_text bulk_text bodies problem_of lines_after
unprocessable = refl

forbidden : map of_fault (codes "NOBODY" ∷ codes "SUSPENDED" ∷ codes "ROLE" ∷ codes "PRODUCT" ∷ [])
    ≡ map (problem Forbidden (codes "Forbidden\",\"status\":403") (codes "no")) (codes "NOBODY" ∷ codes "SUSPENDED" ∷ codes "ROLE" ∷ codes "PRODUCT" ∷ [])
unfolding body_text places_of separated batch_places batch_objects later_members alert_member name_member pack_words comparison_member detail_named problem_named problem_front type_text said_text fault_text bulk_text bodies problem_of lines_after
forbidden = refl

conflict : map of_fault (codes "CHANGED" ∷ [])
    ≡ map (problem Conflict (codes "Conflict\",\"status\":409") (codes "no")) (codes "CHANGED" ∷ [])
unfolding body_text places_of separated batch_places batch_objects later_members alert_member name_member pack_words comparison_member detail_named problem_named problem_front type_text said_text fault_text bulk_text bodies problem_of lines_after
conflict = refl

precondition-failed : map of_fault (codes "DIFFERS" ∷ [])
    ≡ map (problem PreconditionFailed (codes "Precondition Failed\",\"status\":412") (codes "no")) (codes "DIFFERS" ∷ [])
unfolding body_text places_of separated batch_places batch_objects later_members alert_member name_member pack_words comparison_member detail_named problem_named problem_front type_text said_text fault_text bulk_text bodies problem_of lines_after
precondition-failed = refl

too-many-requests : map of_fault (codes "RATE" ∷ [])
    ≡ map (problem TooManyRequests (codes "Too Many Requests\",\"status\":429") (codes "no")) (codes "RATE" ∷ [])
unfolding body_text places_of separated batch_places batch_objects later_members alert_member name_member pack_words comparison_member detail_named problem_named problem_front type_text said_text fault_text bulk_text bodies problem_of lines_after
too-many-requests = refl

unavailable : map of_fault (codes "CLOCK" ∷ codes "CLOSED" ∷ codes "MEMORY" ∷ [])
    ≡ map (problem Unavailable (codes "Service Unavailable\",\"status\":503") (codes "no")) (codes "CLOCK" ∷ codes "CLOSED" ∷ codes "MEMORY" ∷ [])
unfolding body_text places_of separated batch_places batch_objects later_members alert_member name_member pack_words comparison_member detail_named problem_named problem_front type_text said_text fault_text bulk_text bodies problem_of lines_after
unavailable = refl

unknown : map of_fault (codes "JOURNAL" ∷ [])
    ≡ map (problem Unknown (codes "Service Unavailable\",\"status\":503") (codes "unknown")) (codes "JOURNAL" ∷ [])
unfolding body_text places_of separated batch_places batch_objects later_members alert_member name_member pack_words comparison_member detail_named problem_named problem_front type_text said_text fault_text bulk_text bodies problem_of lines_after
unknown = refl

-- what is no answer is ended
ended : map (λ text. (problem_of text, body_text about text)) (codes "" ∷ codes "UPLOADED" ∷ codes "BYE\n" ∷ codes "#a17\n" ∷ codes "\n" ∷ [])
    ≡ map (λ _. problem Unknown (codes "Service Unavailable\",\"status\":503") (codes "unknown") (codes "ENDED")) (codes "" ∷ codes "UPLOADED" ∷ codes "BYE\n" ∷ codes "#a17\n" ∷ codes "\n" ∷ [])
unfolding body_text places_of separated batch_places batch_objects later_members alert_member name_member pack_words comparison_member detail_named problem_named problem_front type_text said_text fault_text bulk_text bodies problem_of lines_after
ended = refl

-- a bulk has a body for each question
bulk : bulk_text (about ∷ about ∷ about ∷ []) (codes "#a17 UPLOADED\nFAULT CODE\nALERT HELD FLAGGED 17\n")
    ≡ codes "{\"replies\":[{\"reply\":\"UPLOADED\"}\n,{\"type\":\"/problems#CODE\",\"title\":\"Unprocessable Content\",\"status\":422,\"detail\":\"The code is no product code, or the scan cannot be read. Scan again, or type the print.\",\"fault\":\"CODE\",\"recorded\":\"no\"}\n,{\"reply\":\"ALERT\",\"cause\":\"HELD\",\"flag\":\"FLAGGED\",\"number\":17,\"alert\":\"09506000134352-17\"}\n]}\n"
unfolding body_text places_of separated batch_places batch_objects later_members alert_member name_member pack_words comparison_member detail_named problem_named problem_front type_text said_text fault_text bulk_text bodies problem_of lines_after
bulk = refl

bulk-ended : bulk_text (about ∷ about ∷ []) (codes "STOLEN\n")
    ≡ codes "{\"replies\":[{\"reply\":\"STOLEN\"}\n,{\"type\":\"/problems#ENDED\",\"title\":\"Service Unavailable\",\"status\":503,\"detail\":\"The session ended before the reply. Ask again with the same key.\",\"fault\":\"ENDED\",\"recorded\":\"unknown\"}\n]}\n"
unfolding body_text places_of separated batch_places batch_objects later_members alert_member name_member pack_words comparison_member detail_named problem_named problem_front type_text said_text fault_text bulk_text bodies problem_of lines_after
bulk-ended = refl

-- a bulk may be asked again after a second if one of its questions may, and if that has an answer
passing : Gives (λ text. has_passing (about ∷ about ∷ []) (input_lines text)) (
    (codes "UPLOADED\n#a17 FAULT RATE\n", true)
    ∷ (codes "FAULT RATE\nUPLOADED\n", true)
    ∷ (codes "FAULT CLOCK\nFAULT CODE\n", true)
    ∷ (codes "FAULT JOURNAL\nFAULT DIFFERS\n", false)
    ∷ (codes "UPLOADED\nNOPACK\nFAULT RATE\n", false)
    ∷ (codes "UPLOADED\n", false)
    ∷ [])
unfolding places_of problem_named has_passing lines_after
passing = refl

-- the problem of a refused body names the item and the member that it has
refusals : Gives refusal_text (
    (record { fault = fault.Fields; item = Some 17; member = Some member.Serial }, codes "{\"type\":\"/problems#FIELDS\",\"title\":\"Bad Request\",\"status\":400,\"detail\":\"A member is missing, unknown or of another type, or a value is empty or has a character outside ! to ~.\",\"fault\":\"FIELDS\",\"recorded\":\"no\",\"item\":17,\"member\":\"serial\"}\n")
    ∷ (record { fault = fault.Json; item = None; member = None }, codes "{\"type\":\"/problems#JSON\",\"title\":\"Bad Request\",\"status\":400,\"detail\":\"The body is no JSON object, or an object in it has a member twice.\",\"fault\":\"JSON\",\"recorded\":\"no\"}\n")
    ∷ [])
unfolding digits front_of refusal_text
refusals = refl

-- scanned values are compared with the batch and the expiry date of a reply
abbrev printed : List ℕ → List ℕ → Option Scanned
printed b x = Some (Ok (record { batch = record { bytes = b }; expiry = record { bytes = x } }))

abbrev compared : List ℕ × List ℕ × List ℕ → List ℕ
compared c = body_text (with_values (printed c.0 c.1)) c.2

comparisons : Gives compared (
    ((codes "B1", codes "280200", codes "#a AUTHENTIC B1 280200 VALID\n"), codes "{\"reply\":\"AUTHENTIC\",\"batch\":\"B1\",\"expiry\":\"280200\",\"validity\":\"VALID\",\"scanned\":{\"batch\":\"MATCHES\",\"expiry\":\"MATCHES\"}}\n")
    ∷ ((codes "B11", codes "280200", codes "AUTHENTIC B1 280200 VALID\n"), codes "{\"reply\":\"AUTHENTIC\",\"batch\":\"B1\",\"expiry\":\"280200\",\"validity\":\"VALID\",\"scanned\":{\"batch\":\"DIFFERS\",\"expiry\":\"MATCHES\"}}\n")
    ∷ ((codes "B1", codes "280229", codes "STATUS HELD FREE SUPPLY B1 280200\n"), codes "{\"reply\":\"STATUS\",\"own\":\"HELD\",\"lock\":\"FREE\",\"onward\":\"SUPPLY\",\"batch\":\"B1\",\"expiry\":\"280200\",\"scanned\":{\"batch\":\"MATCHES\",\"expiry\":\"DIFFERS\"}}\n")
    ∷ ((codes "280200", codes "251231", codes "STATUS HELD FREE SUPPLY B1 280200\n"), codes "{\"reply\":\"STATUS\",\"own\":\"HELD\",\"lock\":\"FREE\",\"onward\":\"SUPPLY\",\"batch\":\"B1\",\"expiry\":\"280200\",\"scanned\":{\"batch\":\"DIFFERS\",\"expiry\":\"DIFFERS\"}}\n")
    ∷ ((codes "B1", codes "280200", codes "NOPACK\n"), codes "{\"reply\":\"NOPACK\"}\n")
    ∷ ((codes "B1", codes "280200", codes "LOCKED 3\n"), codes "{\"reply\":\"LOCKED\",\"packs\":3}\n")
    ∷ [])
unfolding body_text places_of separated batch_places batch_objects later_members alert_member name_member pack_words comparison_member detail_named problem_named problem_front type_text said_text fault_text bulk_text bodies problem_of lines_after
comparisons = refl

bulk-compared : bulk_text (about ∷ with_values (printed (codes "B1") (codes "280200")) ∷ []) (codes "AUTHENTIC B1 280200 VALID\nAUTHENTIC B2 280200 VALID\n")
    ≡ codes "{\"replies\":[{\"reply\":\"AUTHENTIC\",\"batch\":\"B1\",\"expiry\":\"280200\",\"validity\":\"VALID\"}\n,{\"reply\":\"AUTHENTIC\",\"batch\":\"B2\",\"expiry\":\"280200\",\"validity\":\"VALID\",\"scanned\":{\"batch\":\"DIFFERS\",\"expiry\":\"MATCHES\"}}\n]}\n"
unfolding body_text places_of separated batch_places batch_objects later_members alert_member name_member pack_words comparison_member detail_named problem_named problem_front type_text said_text fault_text bulk_text bodies problem_of lines_after
bulk-compared = refl

-- a problem says why the scan of its question cannot be read
abbrev unread : ScanFault → List ℕ
unread fault = body_text (with_values (Some (Err fault))) (codes "FAULT CODE\n")

abbrev unread_body : List ℕ → List ℕ
unread_body why =
    codes "{\"type\":\"/problems#CODE\",\"title\":\"Unprocessable Content\",\"status\":422,\"detail\":\"The code is no product code, or the scan cannot be read. Scan again, or type the print.\",\"fault\":\"CODE\",\"recorded\":\"no\",\"scan\":\"" ++ (why ++ codes "\"}\n")

reasons : Gives unread (
    (scan_fault.Long, unread_body (codes "LONG"))
    ∷ (scan_fault.PlainDataMatrix, unread_body (codes "PLAIN_DATA_MATRIX"))
    ∷ (scan_fault.Symbology, unread_body (codes "SYMBOLOGY"))
    ∷ (scan_fault.NoElement, unread_body (codes "NO_ELEMENT"))
    ∷ (scan_fault.Element 22, unread_body (codes "ELEMENT"))
    ∷ (scan_fault.Short element.Code, unread_body (codes "SHORT"))
    ∷ (scan_fault.Twice element.Serial, unread_body (codes "TWICE"))
    ∷ (scan_fault.Missing element.Batch, unread_body (codes "MISSING"))
    ∷ (scan_fault.Value element.Expiry, unread_body (codes "VALUE"))
    ∷ [])
unfolding body_text places_of separated batch_places batch_objects later_members alert_member name_member pack_words comparison_member detail_named problem_named problem_front type_text said_text fault_text bulk_text bodies problem_of lines_after
reasons = refl

bulk-unread : bulk_text (with_values (Some (Err (scan_fault.Missing element.Serial))) ∷ about ∷ []) (codes "FAULT CODE\nUPLOADED\n")
    ≡ codes "{\"replies\":[" ++ (unread_body (codes "MISSING") ++ codes ",{\"reply\":\"UPLOADED\"}\n]}\n")
unfolding body_text places_of separated batch_places batch_objects later_members alert_member name_member pack_words comparison_member detail_named problem_named problem_front type_text said_text fault_text bulk_text bodies problem_of lines_after
bulk-unread = refl
