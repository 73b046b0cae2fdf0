-- The JSON of a reply (RFC 8259), or the problem if there is none (RFC 9457). Names and statuses are our own choice.
use Rattle.std.specs.Prelude.{ℕ, Bool, true, false, List, [], ◌∷◌, ◌++◌, ◌==◌, ◌||◌, codes, drop, find, Option, Some, None, option_map, unwrap_or, Ok, Err, if◌then◌else◌}
use Rattle.std.specs.List.{after_first, before_first, flat_map}
use Rattle.std.specs.Str.{bytes_eq}
use Rattle.nmvs_stream.specs.InputLines.{input_lines}
use Rattle.nmvs_messages.specs.Fields.{is_space}
use Rattle.nmvs_identifier.specs.ProductCode.{ProductCode}
use Rattle.nmvs_rules.specs.declared.printed.Printed.{Printed}
use Rattle.nmvs_elements.specs.declared.fault.ScanFault.{ScanFault}
use Rattle.nmvs_elements.specs.declared.fault.ScanFault.TheVariants as faults
use Rattle.nmvs_messages.specs.declared.fault.Problem.{Problem}
use Rattle.nmvs_messages.specs.declared.fault.Problem.TheVariants.{Unprocessable, Forbidden, Conflict, PreconditionFailed, TooManyRequests, Unavailable, Unknown}
use Rattle.nmvs_json.specs.declared.subject.Subject.{Subject}
use Rattle.nmvs_json.specs.Scans.{Scanned}

-- a character in a string: a backslash stands before a quotation mark and before a backslash (RFC 8259, section 7)
abbrev pub escaped : ℕ → List ℕ
escaped b = if b == 34 || b == 92 then 92 ∷ b ∷ [] else b ∷ []

-- a string
abbrev pub quoted : List ℕ → List ℕ
quoted text = 34 ∷ (flat_map escaped text ++ 34 ∷ [])

-- the value of a word in a table
abbrev pub named : {T : Type 0} → List (List ℕ × T) → List ℕ → Option T
named table word = option_map (λ row. row.1) (find (λ row. bytes_eq word row.0) table)

-- the place of a word of a line in its object: a string or a number under a name. It has none if the next name says the
-- same.
pub data Place : Type 0 where
  string : List ℕ → Place
  number : List ℕ → Place
  label : Place

-- the lines of replies: the first word, and the places of the others
abbrev pub rows : List (List ℕ × List Place)
rows =
    (codes "UPLOADED", [])
    ∷ (codes "AUTHENTIC", string (codes "batch") ∷ string (codes "expiry") ∷ string (codes "validity") ∷ [])
    ∷ (codes "ALERT", string (codes "cause") ∷ string (codes "flag") ∷ number (codes "number") ∷ [])
    ∷ (codes "STATUS", string (codes "own") ∷ string (codes "lock") ∷ string (codes "onward") ∷ string (codes "batch") ∷ string (codes "expiry") ∷ [])
    ∷ (codes "NOPACK", [])
    ∷ (codes "DECOMMISSIONED", [])
    ∷ (codes "HANDED_OVER", [])
    ∷ (codes "REVERTED", [])
    ∷ (codes "LOCKED", number (codes "packs") ∷ [])
    ∷ (codes "STOLEN", [])
    ∷ (codes "SHOWN", number (codes "number") ∷ [])
    ∷ (codes "REFUSED", number (codes "number") ∷ string (codes "refusal") ∷ [])
    ∷ (codes "PRODUCT", string (codes "code") ∷ label ∷ string (codes "holder") ∷ label ∷ number (codes "alerts") ∷ label ∷ number (codes "flagged") ∷ [])
    ∷ []

-- the places of a line that begins with this word, if it is the first word of a reply
unfoldable pub places_of : List ℕ → Option (List Place)
places_of word = named rows word

-- the first word of a line, and the words after it
abbrev pub first_word : List ℕ → List ℕ
first_word line = before_first is_space line

abbrev pub later_words : List ℕ → List ℕ
later_words line = after_first is_space line

-- the words of a line at their places
abbrev pub placed : List Place → List ℕ → List (Place × List ℕ)
placed [] line = []
placed (place ∷ places) line = (place, first_word line) ∷ placed places (later_words line)

-- a word at its place as a member of an object, after a comma
abbrev pub member : Place × List ℕ → List ℕ
member (string name, word) = codes ",\"" ++ (name ++ (codes "\":" ++ quoted word))
member (number name, word) = codes ",\"" ++ (name ++ (codes "\":" ++ word))
member (label, word) = []

-- the words of a line as members
abbrev pub members : List Place → List ℕ → List ℕ
members places line = flat_map member (placed places line)

-- texts, the first after this text and each later one after a comma
unfoldable pub separated : List ℕ → List (List ℕ) → List ℕ
separated front [] = []
separated front (x ∷ xs) = front ++ (x ++ separated (codes ",") xs)

-- whether a word is a tag: it begins with #, and no other first word of a line does
abbrev pub is_tag : List ℕ → Bool
is_tag [] = false
is_tag (b ∷ bs) = b == 35

-- a line without its tag
abbrev pub untagged : List ℕ → List ℕ
untagged line = if is_tag line then later_words line else line

-- the places of the words of a batch, after BATCH and the batch number
unfoldable pub batch_places : List Place
batch_places =
    string (codes "lock")
    ∷ label ∷ number (codes "active") ∷ label ∷ number (codes "held") ∷ label ∷ number (codes "supplied") ∷ label ∷ number (codes "exported")
    ∷ label ∷ number (codes "sampled") ∷ label ∷ number (codes "destroyed") ∷ label ∷ number (codes "stolen") ∷ []

-- the object of a batch, by the words after BATCH
abbrev pub batch_object : List ℕ → List ℕ
batch_object line =
    codes "{\"batch\":" ++ (quoted (first_word line) ++ (members batch_places (later_words line) ++ codes "}"))

-- the objects of the batches in lines of a report, up to the first other line
unfoldable pub batch_objects : List (List ℕ) → List (List ℕ)
batch_objects [] = []
batch_objects (line ∷ lines) =
    if bytes_eq (first_word (untagged line)) (codes "BATCH") then batch_object (later_words (untagged line)) ∷ batch_objects lines else []

-- the members of the later lines of a reply: the entries of an audit, as they are, or the batches of a report
unfoldable pub later_members : List ℕ → List (List ℕ) → List ℕ
later_members word lines =
    if bytes_eq word (codes "SHOWN") then codes ",\"entries\":[" ++ (separated [] lines ++ codes "]")
    else (if bytes_eq word (codes "PRODUCT") then codes ",\"batches\":[" ++ (separated [] (batch_objects lines) ++ codes "]")
    else [])

-- the member of the name of an alert: the product code, a hyphen, and the number, which is the third word after the first (own)
unfoldable pub name_member : ProductCode → List ℕ → List ℕ
name_member code words = codes ",\"alert\":\"" ++ (code.bytes ++ (codes "-" ++ (first_word (later_words (later_words words)) ++ codes "\"")))

-- the same of a reply to a question about this code, by its first word and its later words, if it is an alert
unfoldable pub alert_member : Option ProductCode → List ℕ → List ℕ → List ℕ
alert_member None word words = []
alert_member (Some code) word words = if bytes_eq word (codes "ALERT") then name_member code words else []

-- the words of a reply from its batch number and expiry date on, by its first word and its later words, if it says them
unfoldable pub pack_words : List ℕ → List ℕ → Option (List ℕ)
pack_words word words =
    if bytes_eq word (codes "AUTHENTIC") then Some words
    else (if bytes_eq word (codes "STATUS") then Some (later_words (later_words (later_words words)))
    else None)

-- whether a scanned value is that of the reply, byte for byte
abbrev pub comparison : List ℕ → List ℕ → List ℕ
comparison scanned said = if bytes_eq scanned said then codes "MATCHES" else codes "DIFFERS"

-- the member that compares scanned values with words that begin with a batch number and an expiry date
unfoldable pub comparison_member : Printed → List ℕ → List ℕ
comparison_member scanned words =
    codes ",\"scanned\":{\"batch\":\""
    ++ (comparison scanned.batch.bytes (first_word words) ++ (codes "\",\"expiry\":\"" ++ (comparison scanned.expiry.bytes (first_word (later_words words)) ++ codes "\"}")))

-- the member of the scanned values of a question, if there are some and the reply says a batch number and an expiry date
abbrev pub scanned_member : Option Scanned → Option (List ℕ) → List ℕ
scanned_member None said = []
scanned_member (Some (Err fault)) said = []
scanned_member (Some (Ok scanned)) None = []
scanned_member (Some (Ok scanned)) (Some words) = comparison_member scanned words

-- the object of a reply. It rests on its first line without the tag, the places of the words in it, the subject of its
-- question, and its later lines.
abbrev pub reply_object : List Place → Subject → List ℕ → List (List ℕ) → List ℕ
reply_object places subject line lines =
    let word = first_word line in
    let words = later_words line in
    codes "{\"reply\":"
    ++ (quoted word
    ++ (members places words
    ++ (alert_member subject.code word words ++ (scanned_member subject.scanned (pack_words word words) ++ (later_members word lines ++ codes "}\n")))))

-- the faults of lines and connections, and the problem of each
abbrev pub problems : List (List ℕ × Problem)
problems =
    (codes "LONG", Unprocessable) ∷ (codes "RETURN", Unprocessable) ∷ (codes "BYTES", Unprocessable) ∷ (codes "FIELDS", Unprocessable)
    ∷ (codes "WORD", Unprocessable) ∷ (codes "CODE", Unprocessable) ∷ (codes "SERIAL", Unprocessable) ∷ (codes "BATCH", Unprocessable)
    ∷ (codes "EXPIRY", Unprocessable) ∷ (codes "USER", Unprocessable)
    ∷ (codes "CLOCK", Unavailable) ∷ (codes "NOBODY", Forbidden) ∷ (codes "SUSPENDED", Forbidden) ∷ (codes "CLOSED", Unavailable)
    ∷ (codes "ROLE", Forbidden) ∷ (codes "MEMORY", Unavailable) ∷ (codes "RATE", TooManyRequests) ∷ (codes "JOURNAL", Unknown)
    ∷ (codes "TAG", Unprocessable) ∷ (codes "DIFFERS", PreconditionFailed) ∷ (codes "CHANGED", Conflict) ∷ (codes "PRODUCT", Forbidden)
    ∷ (codes "BUSY", Unknown) ∷ (codes "IDLE", Unknown)
    ∷ []

-- the problem of a fault: a question with a fault that is not in the table may be recorded
unfoldable pub problem_named : List ℕ → Problem
problem_named fault = unwrap_or (named problems fault) Unknown

-- the texts of faults, for a person (own)
abbrev pub details : List (List ℕ × List ℕ)
details =
    (codes "LONG", codes "The line of the question has over 200 bytes. Shorten its values.")
    ∷ (codes "USER", codes "The user is no name. Send the name that is enrolled.")
    ∷ (codes "CODE", codes "The code is no product code, or the scan cannot be read. Scan again, or type the print.")
    ∷ (codes "SERIAL", codes "The serial is no serial number. Scan again, or type the print.")
    ∷ (codes "BATCH", codes "The batch is no batch number. Scan again, or type the print.")
    ∷ (codes "EXPIRY", codes "The expiry is no date of the form YYMMDD. Scan again, or type the print.")
    ∷ (codes "TAG", codes "The key is that of another question. Ask with a new key.")
    ∷ (codes "NOBODY", codes "The user is not enrolled, or the certificate names somebody else.")
    ∷ (codes "SUSPENDED", codes "The user is suspended, or its last day is over.")
    ∷ (codes "ROLE", codes "The role of the user gets no report.")
    ∷ (codes "PRODUCT", codes "The authorisation of the user may not upload this code.")
    ∷ (codes "CHANGED", codes "The key was answered before, and the state of the pack has changed. Ask with a new key.")
    ∷ (codes "DIFFERS", codes "The pack was uploaded with another batch or expiry date. Compare the scan with the print.")
    ∷ (codes "RATE", codes "The user is over the rate. Ask again after a second.")
    ∷ (codes "CLOCK", codes "The clock of the server gives no moment. Ask again.")
    ∷ (codes "CLOSED", codes "The server cannot read the list of users. Ask again.")
    ∷ (codes "MEMORY", codes "The server has no memory for the question. Ask again.")
    ∷ (codes "JOURNAL", codes "The log may not have the question. Ask again with the same key.")
    ∷ (codes "ENDED", codes "The session ended before the reply. Ask again with the same key.")
    ∷ []

unfoldable pub detail_named : List ℕ → Option (List ℕ)
detail_named fault = named details fault

-- the text of a fault; no question of JSON has one that is not in the table
abbrev pub detail_of : List ℕ → List ℕ
detail_of fault = unwrap_or (detail_named fault) (codes "The line of the question cannot be read.")

-- the title and the status of a problem, and whether the question may be recorded (RFC 9457, section 3; `fault` and `recorded` are own)
unfoldable pub problem_front : Problem → List ℕ
problem_front Unprocessable = codes ",\"title\":\"Unprocessable Content\",\"status\":422,\"detail\":"
problem_front Forbidden = codes ",\"title\":\"Forbidden\",\"status\":403,\"detail\":"
problem_front Conflict = codes ",\"title\":\"Conflict\",\"status\":409,\"detail\":"
problem_front PreconditionFailed = codes ",\"title\":\"Precondition Failed\",\"status\":412,\"detail\":"
problem_front TooManyRequests = codes ",\"title\":\"Too Many Requests\",\"status\":429,\"detail\":"
problem_front Unavailable = codes ",\"title\":\"Service Unavailable\",\"status\":503,\"detail\":"
problem_front Unknown = codes ",\"title\":\"Service Unavailable\",\"status\":503,\"detail\":"

abbrev pub recorded_member : Problem → List ℕ
recorded_member Unknown = codes ",\"recorded\":\"unknown\""
recorded_member _ = codes ",\"recorded\":\"no\""

-- the fault of a scan as a word (own)
abbrev pub scan_word : ScanFault → List ℕ
scan_word faults.Long = codes "LONG"
scan_word faults.PlainDataMatrix = codes "PLAIN_DATA_MATRIX"
scan_word faults.Symbology = codes "SYMBOLOGY"
scan_word faults.NoElement = codes "NO_ELEMENT"
scan_word (faults.Element place) = codes "ELEMENT"
scan_word (faults.Short identifier) = codes "SHORT"
scan_word (faults.Twice identifier) = codes "TWICE"
scan_word (faults.Missing identifier) = codes "MISSING"
scan_word (faults.Value identifier) = codes "VALUE"

-- the member that says why the scan of a question cannot be read, if it cannot
abbrev pub unread_member : Option Scanned → List ℕ
unread_member None = []
unread_member (Some (Ok scanned)) = []
unread_member (Some (Err fault)) = member (string (codes "scan"), scan_word fault)

-- the type of a problem: the section of the page that says what to do, a reference relative to the server (RFC 9457, section 3.1.1)
unfoldable pub type_text : List ℕ → List ℕ
type_text fault = codes "{\"type\":\"/problems#" ++ (flat_map escaped fault ++ codes "\"")

-- a problem after its type, up to its text for a person, and after that
unfoldable pub said_text : Problem → List ℕ → List ℕ
said_text problem fault = problem_front problem ++ quoted (detail_of fault)

unfoldable pub fault_text : Problem → List ℕ → List ℕ
fault_text problem fault = codes ",\"fault\":" ++ (quoted fault ++ recorded_member problem)

-- the object of the problem of a fault, by the scanned values of its question
abbrev pub problem_object : Option Scanned → List ℕ → List ℕ
problem_object scanned fault =
    type_text fault ++ (said_text (problem_named fault) fault ++ (fault_text (problem_named fault) fault ++ (unread_member scanned ++ codes "}\n")))

-- the fault of a line without a reply: the words after FAULT, or ENDED if the line does not begin with FAULT
abbrev pub fault_of : List ℕ → List ℕ
fault_of line = if bytes_eq (first_word line) (codes "FAULT") then later_words line else codes "ENDED"

-- the body for a question with this subject, a first line without its tag, and the later lines
abbrev pub body_where : Option (List Place) → Subject → List ℕ → List (List ℕ) → List ℕ
body_where (Some places) subject line lines = reply_object places subject line lines
body_where None subject line lines = problem_object subject.scanned (fault_of line)

-- the problem for a first line without its tag
abbrev pub problem_where : Option (List Place) → List ℕ → Option Problem
problem_where (Some places) line = None
problem_where None line = Some (problem_named (fault_of line))

-- the first of these lines without its tag, or an empty line if there are none
abbrev pub first_line : List (List ℕ) → List ℕ
first_line [] = []
first_line (line ∷ lines) = untagged line

-- the body for the subject of a question, and the text that a session of lines wrote to its line
unfoldable pub body_text : Subject → List ℕ → List ℕ
body_text subject text =
    let lines = input_lines text in
    body_where (places_of (first_word (first_line lines))) subject (first_line lines) (drop 1 lines)

-- the bodies of answers of one line each, by the subject of each question: a question without a line has the body of no answer
unfoldable pub bodies : List Subject → List (List ℕ) → List (List ℕ)
bodies [] lines = []
bodies (subject ∷ others) lines =
    body_where (places_of (first_word (first_line lines))) subject (first_line lines) [] ∷ bodies others (drop 1 lines)

-- whether a problem passes: nothing is recorded, and the same question may have a reply after a second
abbrev pub passes : Option Problem → Bool
passes (Some TooManyRequests) = true
passes (Some Unavailable) = true
passes _ = false

-- whether one of the answers that have these bodies is such a problem
unfoldable pub has_passing : List Subject → List (List ℕ) → Bool
has_passing [] lines = false
has_passing (subject ∷ others) lines = passes (problem_where (places_of (first_word (first_line lines))) (first_line lines)) || has_passing others (drop 1 lines)

-- the body for the subject of each question of a bulk, and the text that a session of lines wrote to its lines
unfoldable pub bulk_text : List Subject → List ℕ → List ℕ
bulk_text subjects text = codes "{\"replies\":[" ++ (separated [] (bodies subjects (input_lines text)) ++ codes "]}\n")

-- the problem of the text, if it is no reply
unfoldable pub problem_of : List ℕ → Option Problem
problem_of text =
    let line = first_line (input_lines text) in problem_where (places_of (first_word line)) line
