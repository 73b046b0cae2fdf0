-- The line that a question of JSON means (own).
use Rattle.std.specs.Prelude.{ℕ, ◌+◌, Bool, true, false, not, ◌&&◌, ◌||◌, ◌==◌, if◌then◌else◌, List, [], ◌∷◌, ◌++◌, length, take, drop, map, find, codes, Option, Some, None, option_map, option_and_then, Result, Ok, Err}
use Rattle.std.specs.Char.{is_ascii_graphic}
use Rattle.std.specs.List.{list_all}
use Rattle.std.specs.Option.{is_none, is_some, option_or, unwrap_or}
use Rattle.std.specs.Str.{bytes_eq, is_utf8}
use Rattle.json.specs.Find.{as_str, get}
use Rattle.json.specs.Json as json
use Rattle.json.specs.Json.{Json, Items, Members, document}
use Rattle.json.specs.Strict.{keys}
use Rattle.nmvs_elements.specs.declared.elements.Elements.{Elements}
use Rattle.nmvs_elements.specs.declared.fault.ScanFault.{ScanFault}
use Rattle.nmvs_identifier.specs.Batch.{is_batch}
use Rattle.nmvs_identifier.specs.Expiry.{is_expiry}
use Rattle.nmvs_identifier.specs.ProductCode.{ProductCode, is_product_code}
use Rattle.nmvs_identifier.specs.Tag.{is_tag}
use Rattle.nmvs_rules.specs.declared.printed.Printed.{Printed}
use Rattle.nmvs_rules.specs.declared.pack_question.PackQuestion.TheVariants.{Audit}
use Rattle.nmvs_words.specs.declared.question_kind.QuestionKind.TheVariants.{Upload, OfPack, OfBatch}
use Rattle.nmvs_words.specs.Kinds.{kind_word, kinds}
use Rattle.nmvs_words.specs.Words.{spaced}
use Rattle.nmvs_json.specs.declared.asked_kind.AskedKind.{AskedKind}
use Rattle.nmvs_json.specs.declared.asked_kind.AskedKind.TheVariants.{Question, Report}
use Rattle.nmvs_json.specs.declared.question_fault.QuestionFault.{QuestionFault}
use Rattle.nmvs_json.specs.declared.question_fault.QuestionFault.TheVariants as fault
use Rattle.nmvs_json.specs.declared.refusal.Member.{Member}
use Rattle.nmvs_json.specs.declared.refusal.Member.TheVariants as members
use Rattle.nmvs_json.specs.declared.refusal.Refusal.{Refusal}
use Rattle.nmvs_json.specs.declared.subject.Subject.{Subject}
use Rattle.nmvs_json.specs.Refusals.{member_name, whole}
use Rattle.nmvs_json.specs.Replies.{named}
use Rattle.nmvs_json.specs.Scans.{Scanned, scan_in}

-- the names of the kinds: the word of each question in small letters, and that of the report
abbrev pub kind_names : List (List ℕ × AskedKind)
kind_names = map (λ k. (map (λ b. b + 32) (kind_word k), Question k)) kinds ++ (codes "report", Report) ∷ []

-- the kind of a name
unfoldable pub kind_named : List ℕ → Option AskedKind
kind_named name = named kind_names name

-- the kind of question at a path: /v1/ and its name
abbrev pub asked_at : List ℕ → Option AskedKind
asked_at path = if bytes_eq (take 4 path) (codes "/v1/") then kind_named (drop 4 path) else None

-- the word of the line
abbrev pub word_of : AskedKind → List ℕ
word_of (Question kind) = kind_word kind
word_of Report = codes "REPORT"

-- the members after the user, in the order of the line
abbrev pub members_of : AskedKind → List Member
members_of (Question Upload) = members.Code ∷ members.Serial ∷ members.Batch ∷ members.Expiry ∷ []
members_of (Question (OfPack _)) = members.Code ∷ members.Serial ∷ []
members_of (Question (OfBatch _)) = members.Code ∷ members.Batch ∷ []
members_of Report = members.Code ∷ []

abbrev pub names_of : AskedKind → List (List ℕ)
names_of kind = map member_name (members_of kind)

-- whether a kind asks about a pack
abbrev pub is_of_pack : AskedKind → Bool
is_of_pack (Question (OfPack _)) = true
is_of_pack _ = false

-- whether the answer to a kind is a list
abbrev pub has_list : AskedKind → Bool
has_list (Question (OfPack Audit)) = true
has_list Report = true
has_list _ = false

-- whether no two of these are equal
abbrev pub are_distinct : List (List ℕ) → Bool
are_distinct [] = true
are_distinct (k ∷ ks) = list_all (λ other. not (bytes_eq k other)) ks && are_distinct ks

-- whether no object in a value has a member twice
abbrev mutual
  pub has_unique_keys : Json → Bool
  has_unique_keys json.null = true
  has_unique_keys (json.boolean b) = true
  has_unique_keys (json.number s) = true
  has_unique_keys (json.string s) = true
  has_unique_keys (json.array js) = items_have_unique_keys js
  has_unique_keys (json.object ms) = are_distinct (keys ms) && members_have_unique_keys ms

  pub items_have_unique_keys : Items → Bool
  items_have_unique_keys json.no_items = true
  items_have_unique_keys (json.item j js) = has_unique_keys j && items_have_unique_keys js

  pub members_have_unique_keys : Members → Bool
  members_have_unique_keys json.no_members = true
  members_have_unique_keys (json.member k j ms) = has_unique_keys j && members_have_unique_keys ms

-- the value of a text (RFC 8259), where no object in it has a member twice
abbrev pub value_in : List ℕ → Option Json
value_in text = option_and_then (λ j. if has_unique_keys j then Some j else None) (document text)

-- a value that is an object
abbrev pub as_object : Json → Option Json
as_object (json.object ms) = Some (json.object ms)
as_object _ = None

-- the object that a body is, in UTF-8
abbrev pub object_in : List ℕ → Option Json
object_in body = if is_utf8 body then option_and_then as_object (value_in body) else None

-- the number of members of an object
abbrev pub count_of : Json → ℕ
count_of (json.object ms) = length (keys ms)
count_of _ = 0

-- whether a text can be a field of a line: one or more visible ASCII characters, ! to ~
abbrev pub is_field : List ℕ → Bool
is_field t = not (length t == 0) && list_all is_ascii_graphic t

-- a text that can be a field
abbrev pub as_field : Option (List ℕ) → Option (List ℕ)
as_field None = None
as_field (Some t) = if is_field t then Some t else None

-- a text that does not begin with #, which reads as a tag at the front of a line
abbrev pub as_user : Option (List ℕ) → Option (List ℕ)
as_user None = None
as_user (Some []) = Some []
as_user (Some (c ∷ t)) = if c == 35 then None else Some (c ∷ t)

-- the text of the member of a name
abbrev pub text_of : List ℕ → Json → Option (List ℕ)
text_of name j = as_field (option_and_then as_str (get name j))

-- the text of the user
abbrev pub user_of : Json → Option (List ℕ)
user_of j = as_user (text_of (codes "user") j)

-- the texts of the members of these names, if each can be a field
abbrev pub texts_of : List (List ℕ) → Json → Option (List (List ℕ))
texts_of [] j = Some []
texts_of (name ∷ names) j = option_and_then (λ t. option_map (λ ts. t ∷ ts) (texts_of names j)) (text_of name j)

-- the string that is the member of a name
abbrev pub string_of : List ℕ → Json → Option (List ℕ)
string_of name j = option_and_then as_str (get name j)

-- whether a scan stands in place of a code and a serial, as it may in a question about a pack
abbrev pub has_scan : AskedKind → Json → Bool
has_scan kind j = is_of_pack kind && is_some (get (codes "scan") j)

-- the code and the serial of a pack; a scan that cannot be read has -, which is no product code, in their places
abbrev pub pack_texts : Result Elements ScanFault → List (List ℕ)
pack_texts (Err fault) = codes "-" ∷ codes "-" ∷ []
pack_texts (Ok pack) = pack.code.bytes ∷ pack.serial.bytes ∷ []

-- the texts that name the pack, the batch or the product, and the number of members that say them
abbrev pub name_texts : AskedKind → Json → Option (List (List ℕ))
name_texts kind j =
    if has_scan kind j then option_map (λ scan. pack_texts (scan_in scan)) (string_of (codes "scan") j) else texts_of (names_of kind) j

abbrev pub name_count : AskedKind → Json → ℕ
name_count kind j = if has_scan kind j then 1 else length (members_of kind)

-- whether the values printed on a pack stand in the member scanned, as they may in a question about a pack without a scan
abbrev pub has_scanned : AskedKind → Json → Bool
has_scanned kind j = is_of_pack kind && not (has_scan kind j) && is_some (get (codes "scanned") j)

-- whether a question is put only if the values printed on the pack are those of its upload
abbrev pub has_condition : AskedKind → Json → Bool
has_condition kind j = (has_scan kind j || has_scanned kind j) && is_some (get (codes "if_scanned") j)

-- a text in a grammar
abbrev pub within : (List ℕ → Bool) → Option (List ℕ) → Option (List ℕ)
within grammar None = None
within grammar (Some t) = if grammar t then Some t else None

-- the printed values of these texts
abbrev pub printed_of : List ℕ → List ℕ → Printed
printed_of batch expiry = record { batch = record { bytes = batch }; expiry = record { bytes = expiry } }

-- the printed values in an object, which has no other members
unfoldable pub printed_in : Json → Option Scanned
printed_in j =
    if count_of j == 2
    then option_and_then (λ batch. option_map (λ expiry. Ok (printed_of batch expiry)) (within is_expiry (string_of (codes "expiry") j))) (within is_batch (string_of (codes "batch") j))
    else None

-- the texts in such an object, which a person may have misread
abbrev pub said_in : Json → Option (List (List ℕ))
said_in j = if count_of j == 2 then texts_of (codes "batch" ∷ codes "expiry" ∷ []) j else None

abbrev pub said_of : Json → Option (List (List ℕ))
said_of j = option_and_then said_in (get (codes "scanned") j)

-- the printed values of an object with such texts: none if one of them is misread
abbrev pub values_in : Json → Option (Option Scanned)
values_in j = option_map (λ _. printed_in j) (said_in j)

-- those of a scan, or its fault
abbrev pub scan_printed : Result Elements ScanFault → Scanned
scan_printed (Err fault) = Err fault
scan_printed (Ok pack) = Ok (printed_of pack.batch.bytes pack.expiry.bytes)

abbrev pub scan_values : AskedKind → Json → Option Scanned
scan_values kind j = if has_scan kind j then option_map (λ scan. scan_printed (scan_in scan)) (string_of (codes "scan") j) else None

-- the scanned values of a question, if it has some. They are those of the member scanned, which has to have texts, or
-- those of its scan, or its fault.
unfoldable pub scanned_of : AskedKind → Json → Option (Option Scanned)
scanned_of kind j = if has_scanned kind j then option_and_then values_in (get (codes "scanned") j) else Some (scan_values kind j)

-- the product code of a scan, if it can be read, and that in an object, if its text is one
abbrev pub scan_code : Result Elements ScanFault → Option ProductCode
scan_code (Err fault) = None
scan_code (Ok pack) = Some pack.code

abbrev pub code_in : Json → Option ProductCode
code_in j = option_map (λ code. record { bytes = code }) (within is_product_code (string_of (codes "code") j))

-- the product code of a question
abbrev pub named_code : AskedKind → Json → Option ProductCode
named_code kind j = if has_scan kind j then option_and_then (λ scan. scan_code (scan_in scan)) (string_of (codes "scan") j) else code_in j

-- whether a text of the member scanned is misread
abbrev pub is_misread : AskedKind → Json → Option Scanned → Bool
is_misread kind j scanned = has_scanned kind j && is_none scanned

-- the texts of the values of a scan; one that cannot be read has - in their places as well
abbrev pub printed_texts : Option Scanned → List (List ℕ)
printed_texts None = codes "-" ∷ codes "-" ∷ []
printed_texts (Some (Err fault)) = codes "-" ∷ codes "-" ∷ []
printed_texts (Some (Ok printed)) = printed.batch.bytes ∷ printed.expiry.bytes ∷ []

-- whether the condition is that they match; there is no other
abbrev pub is_matching : Option (List ℕ) → Bool
is_matching None = false
is_matching (Some t) = bytes_eq t (codes "matches")

-- the texts after IF. They are those of the member scanned as they are, so that the line has the fault of a misread
-- one. Or they are those of a scan.
abbrev pub shown_texts : AskedKind → Json → Option Scanned → Option (List (List ℕ))
shown_texts kind j scanned = if has_scanned kind j then said_of j else Some (printed_texts scanned)

-- the texts of the condition of a question with these scanned values: none if it has no condition and nothing is misread
unfoldable pub condition_texts : AskedKind → Json → Option Scanned → Option (List (List ℕ))
condition_texts kind j scanned =
    if has_condition kind j && not (is_matching (string_of (codes "if_scanned") j)) then None
    else (if has_condition kind j || is_misread kind j scanned then option_map (λ ts. codes "IF" ∷ ts) (shown_texts kind j scanned) else Some [])

-- the texts after the word of a line, and the number of members that say them
unfoldable pub subject_of : AskedKind → Json → Option (List (List ℕ))
subject_of kind j =
    option_and_then (λ names. option_and_then (λ scanned. option_map (λ condition. names ++ condition) (condition_texts kind j scanned)) (scanned_of kind j)) (name_texts kind j)

abbrev pub counted : Bool → ℕ
counted there = if there then 1 else 0

unfoldable pub subject_count : AskedKind → Json → ℕ
subject_count kind j = name_count kind j + counted (has_scanned kind j) + counted (has_condition kind j)

-- texts with a space before each
abbrev pub preceded : List (List ℕ) → List ℕ
preceded [] = []
preceded (t ∷ ts) = codes " " ++ (t ++ preceded ts)

-- the fields of the line that an object means, if its members are those of the question, and this number of others
unfoldable pub fields_of : ℕ → AskedKind → Json → Option (List (List ℕ))
fields_of others kind j =
    if count_of j == others + subject_count kind j
    then option_and_then (λ user. option_map (λ texts. user ∷ word_of kind ∷ texts) (subject_of kind j)) (user_of j)
    else None

-- whether the texts of the member scanned are missing, though it is there; whether there is another condition than that they match
abbrev pub is_untold : AskedKind → Json → Bool
is_untold kind j = has_scanned kind j && is_none (said_of j)

abbrev pub has_other_condition : AskedKind → Json → Bool
has_other_condition kind j = has_condition kind j && not (is_matching (string_of (codes "if_scanned") j))

-- the first member that is wrong, of those that name the pack, the batch or the product; and of those after them
abbrev pub wrong_name : AskedKind → Json → Option Member
wrong_name kind j =
    if has_scan kind j then (if is_none (string_of (codes "scan") j) then Some members.Scan else None)
    else find (λ member. is_none (text_of (member_name member) j)) (members_of kind)

abbrev pub wrong_condition : AskedKind → Json → Option Member
wrong_condition kind j = if is_untold kind j then Some members.Scanned else (if has_other_condition kind j then Some members.IfScanned else None)

-- the first member that is wrong in the object of a refused question; there is none if another member is too many
unfoldable pub wrong_member : AskedKind → Json → Option Member
wrong_member kind j = if is_none (user_of j) then Some members.User else option_or (wrong_name kind j) (wrong_condition kind j)

-- whether a key is a tag; there may be none
abbrev pub is_key : Option (List ℕ) → Bool
is_key None = true
is_key (Some key) = is_tag key

-- the text before the line of a question with a key
abbrev pub key_text : Option (List ℕ) → List ℕ
key_text None = []
key_text (Some key) = 35 ∷ key ++ 32 ∷ []

-- the line of a question with this key and these fields, or its fault
abbrev pub line_of : Option (List ℕ) → Option (List (List ℕ)) → Result (List ℕ) QuestionFault
line_of key None = Err fault.Fields
line_of key (Some fields) = Ok (key_text key ++ spaced fields)

-- the line of a question, or its refusal for this member
abbrev pub placed : Option Member → Result (List ℕ) QuestionFault → Result (List ℕ) Refusal
placed member (Err f) = Err (record { fault = f; item = None; member = member })
placed member (Ok line) = Ok line

-- lines and the subjects of their questions, or the refusal
abbrev pub with_subject : {S : Type 0} → S → Result (List ℕ) Refusal → Result (S × List ℕ) Refusal
with_subject subject (Err f) = Err f
with_subject subject (Ok lines) = Ok (subject, lines)

-- the subject of a question that has no fault, and one without a name
unfoldable pub subject_in : AskedKind → Json → Subject
subject_in kind j = record { code = named_code kind j; scanned = unwrap_or (scanned_of kind j) None }

abbrev pub unnamed : Subject
unnamed = record { code = None; scanned = None }

-- the subject and the line of a question with this key and this object as its body, or its refusal. The one other
-- member is the user.
abbrev pub line_of_object : AskedKind → Option (List ℕ) → Option Json → Result (Subject × List ℕ) Refusal
line_of_object kind key None = Err (whole fault.Json)
line_of_object kind key (Some j) = with_subject (subject_in kind j) (placed (wrong_member kind j) (line_of key (fields_of 1 kind j)))

-- the subject and the line, with its LF, of a question with this key and this body, or its refusal for the first fault
unfoldable pub question_line : AskedKind → Option (List ℕ) → List ℕ → Result (Subject × List ℕ) Refusal
question_line kind key body = if is_key key then line_of_object kind key (object_in body) else Err (whole fault.Key)
