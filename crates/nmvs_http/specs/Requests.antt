-- The kind of a request, and the lines that it carries (own).
use Rattle.std.specs.Prelude.{ℕ, Bool, true, false, not, ◌&&◌, ◌||◌, ◌==◌, ◌-◌, List, [], ◌∷◌, length, take, drop, get_or, nat_le, codes, Option, Some, None, option_map, Result, Ok, Err, if◌then◌else◌}
use Rattle.std.specs.List.{list_all}
use Rattle.std.specs.Option.{is_some}
use Rattle.std.specs.Str.{bytes_eq}
use Rattle.http.specs.declared.request.Request.{Request}
use Rattle.http.specs.Request.{body_of, head_of}
use Rattle.http_header.specs.HeaderMap.{get, get_all}
use Rattle.http_header.specs.Token.{lowercase}
use Rattle.http_uri.specs.Uri.{uri_path}
use Rattle.nmvs_json.specs.declared.asked_kind.AskedKind.{AskedKind}
use Rattle.nmvs_json.specs.declared.question_fault.QuestionFault.TheVariants as questions
use Rattle.nmvs_json.specs.declared.refusal.Refusal.{Refusal}
use Rattle.nmvs_json.specs.declared.subject.Subject.{Subject}
use Rattle.nmvs_json.specs.Bulks.{bulk_lines}
use Rattle.nmvs_json.specs.Questions.{asked_at, question_line}
use Rattle.nmvs_json.specs.Refusals.{whole}
use Rattle.nmvs_http.specs.declared.asked.Asks.{Asks}
use Rattle.nmvs_http.specs.declared.asked.Asks.TheVariants.{Lines, Question, Questions, Health, Refused, Malformed}
use Rattle.nmvs_http.specs.declared.fault.Fault.{Fault}
use Rattle.nmvs_http.specs.declared.fault.Fault.TheVariants as faults
use Rattle.nmvs_http.specs.declared.reading.Reading.{Reading}
use Rattle.nmvs_http.specs.RequestLines.{whole_lines}

-- the first value of a field
abbrev pub field_value : Request (List ℕ) → List ℕ → Option (List ℕ)
field_value request name = option_map (λ v. v.bytes) (get (head_of request).headers name)

-- whether a field stands there more than once
abbrev pub has_second : {T : Type 0} → List T → Bool
has_second [] = false
has_second (v ∷ []) = false
has_second (v ∷ w ∷ vs) = true

abbrev pub is_repeated : Request (List ℕ) → List ℕ → Bool
is_repeated request name = has_second (get_all (head_of request).headers name)

-- whether a browser sent the request for a page of another site (W3C Fetch Metadata, section 2.3)
abbrev pub is_foreign_site : List ℕ → Bool
is_foreign_site site = not (bytes_eq site (codes "same-origin")) && not (bytes_eq site (codes "none"))

-- whether a browser names another site; other clients name none
abbrev pub is_foreign : Option (List ℕ) → Bool
is_foreign None = false
is_foreign (Some site) = is_foreign_site site

-- whether the name of a media type ends before this text
abbrev pub ends_name : List ℕ → Bool
ends_name [] = true
ends_name (b ∷ _) = b == 59 || b == 32

-- whether a media type has this name, whatever its parameters (RFC 9110, section 8.3.1)
abbrev pub is_type : List ℕ → List ℕ → Bool
is_type name kind = bytes_eq (lowercase (take (length name) kind)) (lowercase name) && ends_name (drop (length name) kind)

-- whether there is a media type of this name
abbrev pub has_type : List ℕ → Option (List ℕ) → Bool
has_type name None = false
has_type name (Some kind) = is_type name kind

-- whether a Host names an address, which no name service leads elsewhere: digits and dots, or brackets (RFC 3986, section 3.2.2)
abbrev pub is_address_byte : ℕ → Bool
is_address_byte b = (nat_le 48 b && nat_le b 57) || b == 46 || b == 58

abbrev pub is_address : List ℕ → Bool
is_address [] = true
is_address (b ∷ bs) = if b == 91 then true else list_all is_address_byte (b ∷ bs)

-- whether a Host is localhost, with a port or without, which a client takes for itself (RFC 6761, section 6.3)
abbrev pub ends_host : List ℕ → Bool
ends_host [] = true
ends_host (b ∷ _) = b == 58

abbrev pub is_localhost : List ℕ → Bool
is_localhost host = bytes_eq (lowercase (take 9 host)) (codes "localhost") && ends_host (drop 9 host)

-- whether a Host is a name that may lead elsewhere. A page whose name is led to this server has it (own)
abbrev pub is_foreign_host : Option (List ℕ) → Bool
is_foreign_host None = false
is_foreign_host (Some host) = not (is_address host) && not (is_localhost host)

-- whether the head says where the body ends
abbrev pub has_length : Request (List ℕ) → Bool
has_length request = is_some (field_value request (codes "content-length")) || is_some (field_value request (codes "transfer-encoding"))

-- the fault of a request that has to be a POST from no other site, of a type, and with a length
abbrev pub post_fault : List ℕ → Option (List ℕ) → Bool → Bool → Option Fault
post_fault method site typed sized =
    if not (bytes_eq method (codes "POST")) then Some faults.MethodNotPost
    else (if is_foreign site then Some faults.Site
    else (if not typed then Some faults.Type
    else (if not sized then Some faults.Length
    else None)))

-- the fault of a request that has to be a POST from no other site, of this media type, and with a length
abbrev pub fault_of_post : List ℕ → Request (List ℕ) → Option Fault
fault_of_post name request =
    post_fault (head_of request).method (field_value request (codes "sec-fetch-site")) (has_type name (field_value request (codes "content-type"))) (has_length request)

-- the kind of a request to /healthz, by its method
abbrev pub asks_by_health : List ℕ → Asks
asks_by_health method =
    if bytes_eq method (codes "GET") || bytes_eq method (codes "HEAD") then Health else Refused faults.MethodNotGet

-- a request that is refused carries no lines
abbrev pub refused_for : Fault → Reading
refused_for fault = record { asks = Refused fault; lines = [] }

-- a request with this fault, or with this body of lines
abbrev pub reading_of_lines : Option Fault → List ℕ → Reading
reading_of_lines None body = record { asks = Lines; lines = whole_lines body }
reading_of_lines (Some fault) body = refused_for fault

-- a request that is refused for its key or for its body of JSON carries none either
abbrev pub malformed : Refusal → Reading
malformed refusal = record { asks = Malformed refusal; lines = [] }

-- a request whose key and body mean this line with this subject, or are refused
abbrev pub reading_of_line : Result (Subject × List ℕ) Refusal → Reading
reading_of_line (Ok question) = record { asks = Question question.0; lines = question.1 }
reading_of_line (Err refusal) = malformed refusal

-- a request with this fault, or whose key and body mean this line or are refused
abbrev pub reading_of_question : Option Fault → Result (Subject × List ℕ) Refusal → Reading
reading_of_question None line = reading_of_line line
reading_of_question (Some fault) line = refused_for fault

-- a key without the quotation marks of a string (RFC 9651, section 3.3.3), as the draft of the field has it
abbrev pub is_quoted : List ℕ → Bool
is_quoted key = nat_le 2 (length key) && get_or key 0 0 == 34 && get_or key (length key - 1) 0 == 34

abbrev pub unquoted : List ℕ → List ℕ
unquoted key = if is_quoted key then take (length key - 2) (drop 1 key) else key

abbrev pub key_of : Request (List ℕ) → Option (List ℕ)
key_of request = option_map unquoted (field_value request (codes "idempotency-key"))

-- the subject and the line that a request means at the path of this question, or the refusal; it has one key at most
abbrev pub line_of : AskedKind → Request (List ℕ) → Result (Subject × List ℕ) Refusal
line_of kind request =
    if is_repeated request (codes "idempotency-key") then Err (whole questions.Key)
    else question_line kind (key_of request) (body_of request)

-- a request at the path of this question, or at an unknown path
abbrev pub reading_at : Option AskedKind → Request (List ℕ) → Reading
reading_at None request = refused_for faults.Path
reading_at (Some kind) request = reading_of_question (fault_of_post (codes "application/json") request) (line_of kind request)

-- a bulk whose body means these lines with these subjects, or is refused
abbrev pub reading_of_items : Result (List Subject × List ℕ) Refusal → Reading
reading_of_items (Ok bulk) = record { asks = Questions bulk.0; lines = bulk.1 }
reading_of_items (Err refusal) = malformed refusal

-- the lines of a bulk, which has no key of its own, or the refusal
abbrev pub keyless : Option (List ℕ) → List ℕ → Result (List Subject × List ℕ) Refusal
keyless None body = bulk_lines body
keyless (Some key) body = Err (whole questions.Key)

abbrev pub bulk_of : Request (List ℕ) → Result (List Subject × List ℕ) Refusal
bulk_of request = keyless (field_value request (codes "idempotency-key")) (body_of request)

-- a request with this fault, or whose body means these lines or is refused
abbrev pub reading_of_bulk : Option Fault → Result (List Subject × List ℕ) Refusal → Reading
reading_of_bulk None bulk = reading_of_items bulk
reading_of_bulk (Some fault) bulk = refused_for fault

-- the kind of a request, and the bytes of lines that it carries, by its path
unfoldable pub reading_by_path : Request (List ℕ) → Reading
reading_by_path request =
    let path = uri_path (head_of request).uri in
    if bytes_eq path (codes "/v1/lines") then reading_of_lines (fault_of_post (codes "application/vnd.nmvs.lines") request) (body_of request)
    else (if bytes_eq path (codes "/v1/questions") then reading_of_bulk (fault_of_post (codes "application/json") request) (bulk_of request)
    else (if bytes_eq path (codes "/healthz") then record { asks = asks_by_health (head_of request).method; lines = [] }
    else reading_at (asked_at path) request))

-- the kind of a request, and the bytes of lines that it carries. If it comes directly, and through no gateway, its Host is compared
abbrev pub reading_of : Bool → Request (List ℕ) → Reading
reading_of direct request =
    if direct && is_foreign_host (field_value request (codes "host")) then refused_for faults.Host else reading_by_path request

-- the kind of a request
abbrev pub asks_of : Bool → Request (List ℕ) → Asks
asks_of direct request = (reading_of direct request).asks

-- the bytes of lines that it carries
abbrev pub carried_by : Bool → Request (List ℕ) → List ℕ
carried_by direct request = (reading_of direct request).lines

-- whether a request wants the head of a response alone (RFC 9110, section 9.3.2)
abbrev pub wants_head : Request (List ℕ) → Bool
wants_head request = bytes_eq (head_of request).method (codes "HEAD")
