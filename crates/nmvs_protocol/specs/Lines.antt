-- The one text of each line, and the first fault of a line (own).
use Rattle.std.specs.Prelude.{ℕ, Bool, true, false, List, [], ◌∷◌, ◌++◌, length, ◌==◌, ◌-◌, ◌&&◌, ◌||◌, not, nat_lt, codes, Option, Some, None, Result, Ok, Err, if◌then◌else◌, ◌≡◌, ◌≤◌, IsTrue}
use Rattle.std.specs.List.{slice_index}
use Rattle.std.specs.Str.{bytes_eq}
use Rattle.nmvs_identifier.specs.Tag.{Tag}
use Rattle.nmvs_identifier.specs.Name.{is_name}
use Rattle.nmvs_identifier.specs.ProductCode.{is_product_code}
use Rattle.nmvs_identifier.specs.Serial.{is_serial}
use Rattle.nmvs_identifier.specs.Batch.{is_batch}
use Rattle.nmvs_identifier.specs.Expiry.{is_expiry}
use Rattle.nmvs_words.specs.declared.question_kind.QuestionKind.{QuestionKind}
use Rattle.nmvs_words.specs.declared.question_kind.QuestionKind.TheVariants.{Upload, OfPack, OfBatch}
use Rattle.nmvs_words.specs.Kinds.{kind_of, kind_word, kind_named, texts_of}
use Rattle.nmvs_rules.specs.Entries.{is_tag_or_none}
use Rattle.nmvs_messages.specs.declared.ask.Asked.{Asked}
use Rattle.nmvs_messages.specs.declared.ask.Asked.TheVariants as asked
use Rattle.nmvs_messages.specs.declared.ask.Line.{Line}
use Rattle.nmvs_messages.specs.declared.ask.Line.TheVariants as lines
use Rattle.nmvs_messages.specs.declared.ask.LineFault.{LineFault}
use Rattle.nmvs_messages.specs.declared.ask.LineFault.TheVariants as fault
use Rattle.nmvs_messages.specs.declared.ask.Unread.{Unread}
use Rattle.nmvs_messages.specs.Fields.{line_of_fields, line_fault}
use Rattle.nmvs_messages.specs.Tags.{tag_text}
use Rattle.nmvs_protocol.specs.Tags.{tag_of, behind_tag}

-- the word that asks for a report
abbrev pub report_word : List ℕ
report_word = codes "REPORT"

-- the word between a pack and the values that are printed on it
abbrev pub if_word : List ℕ
if_word = codes "IF"

-- the fields of an ask: the user, the word, and the texts that it names
abbrev pub asked_fields : Asked → List (List ℕ)
asked_fields (asked.Question user q) = user.bytes ∷ kind_word (kind_of q) ∷ texts_of q
asked_fields (asked.Conditional user kind p printed) =
    user.bytes ∷ kind_word (OfPack kind) ∷ p.code.bytes ∷ p.serial.bytes ∷ if_word ∷ printed.batch.bytes ∷ printed.expiry.bytes ∷ []
asked_fields (asked.Report user c) = user.bytes ∷ report_word ∷ c.bytes ∷ []

-- the tag of a line, if it has one
abbrev pub line_tag : Line → Option Tag
line_tag (lines.Ask a) = a.tag
line_tag lines.Ping = None
line_tag lines.Version = None
line_tag lines.Help = None
line_tag lines.Quit = None

-- the fields after it
abbrev pub fields : Line → List (List ℕ)
fields (lines.Ask a) = asked_fields a.asked
fields lines.Ping = codes "PING" ∷ []
fields lines.Version = codes "VERSION" ∷ []
fields lines.Help = codes "HELP" ∷ []
fields lines.Quit = codes "QUIT" ∷ []

-- the text of a line, without LF
abbrev pub line_text : Line → List ℕ
line_text l = tag_text (line_tag l) ++ line_of_fields (fields l)

-- a field's grammar, and the fault of a text that is not in it
abbrev pub Grammar : Type 0
Grammar = (List ℕ → Bool) × LineFault

-- the fields that name a pack
abbrev pub pack_grammars : List Grammar
pack_grammars = (is_product_code, fault.Code) ∷ (is_serial, fault.Serial) ∷ []

-- the fields that follow the word of a kind
abbrev pub grammars : QuestionKind → List Grammar
grammars Upload =
    (is_product_code, fault.Code) ∷ (is_serial, fault.Serial) ∷ (is_batch, fault.Batch) ∷ (is_expiry, fault.Expiry) ∷ []
grammars (OfPack _) = pack_grammars
grammars (OfBatch _) = (is_product_code, fault.Code) ∷ (is_batch, fault.Batch) ∷ []

-- the field that follows the word of a report
abbrev pub report_grammars : List Grammar
report_grammars = (is_product_code, fault.Code) ∷ []

-- the fault of the first text that is not in the grammar at its place
abbrev pub first_misread : List Grammar → List (List ℕ) → Option LineFault
first_misread (g ∷ gs) (t ∷ ts) = if g.0 t then first_misread gs ts else Some g.1
first_misread _ _ = None

-- the first fault of a user and of the texts after a word with these grammars
abbrev pub texts_fault : List Grammar → List ℕ → List (List ℕ) → Option LineFault
texts_fault gs user texts =
    if not (length texts == length gs) then Some fault.Fields
    else if not (is_name user) then Some fault.User
    else first_misread gs texts

-- the first fault of a user and of five texts after the word of a question about a pack. The third has to be IF.
abbrev pub printed_fault : List ℕ → List (List ℕ) → Option LineFault
printed_fault user (code ∷ serial ∷ word ∷ batch ∷ expiry ∷ []) =
    if bytes_eq word if_word then texts_fault (grammars Upload) user (code ∷ serial ∷ batch ∷ expiry ∷ []) else Some fault.Fields
printed_fault user _ = Some fault.Fields

-- the first fault of a user and of the texts after the word of a question about a pack. Two texts name the pack, five
-- also the values printed on it.
abbrev pub pack_fault : List ℕ → List (List ℕ) → Option LineFault
pack_fault user texts = if length texts == 5 then printed_fault user texts else texts_fault pack_grammars user texts

-- the first fault of a user's question with a word of this kind
abbrev pub question_fault : List ℕ → Option QuestionKind → List (List ℕ) → Option LineFault
question_fault user None texts = Some fault.Word
question_fault user (Some Upload) texts = texts_fault (grammars Upload) user texts
question_fault user (Some (OfPack kind)) texts = pack_fault user texts
question_fault user (Some (OfBatch kind)) texts = texts_fault (grammars (OfBatch kind)) user texts

-- the first fault of a user's ask with this word: a report, or else a question
abbrev pub ask_fault : List ℕ → List ℕ → List (List ℕ) → Option LineFault
ask_fault user word texts =
    if bytes_eq word report_word then texts_fault report_grammars user texts
    else question_fault user (kind_named word) texts

-- the first fault of these fields of an ask
abbrev pub asked_fault : List (List ℕ) → Option LineFault
asked_fault (user ∷ word ∷ texts) = ask_fault user word texts
asked_fault _ = Some fault.Fields

-- whether a word alone is a line
abbrev pub stands_alone : List ℕ → Bool
stands_alone word = bytes_eq word (codes "PING") || bytes_eq word (codes "VERSION") || bytes_eq word (codes "HELP") || bytes_eq word (codes "QUIT")

-- the first fault of these fields
abbrev pub fields_fault : List (List ℕ) → Option LineFault
fields_fault (word ∷ []) = if stands_alone word then None else Some fault.Fields
fields_fault fs = asked_fault fs

-- the fault of a line with a byte that is not printable; a line that ends with CR (13) has a fault of its own
abbrev pub byte_fault : List ℕ → LineFault
byte_fault x = if slice_index x (length x - 1) == 13 then fault.Return else fault.Bytes

-- the first fault of a line with this number of bytes and these bytes after its tag
abbrev pub asked_line_fault : ℕ → List ℕ → Option LineFault
asked_line_fault count behind =
    if nat_lt 200 count then Some fault.Long
    else line_fault fault.Long (byte_fault behind) fault.Fields asked_fault behind

-- the first fault of a line with this tag, or with none
abbrev pub fault_behind : Option Tag → List ℕ → Option LineFault
fault_behind None x = line_fault fault.Long (byte_fault x) fault.Fields fields_fault x
fault_behind (Some g) x = asked_line_fault (length x) (behind_tag g x)

-- the first fault of a line
unfoldable pub first_fault : List ℕ → Option LineFault
first_fault x = fault_behind (tag_of x) x

-- whether each text is in the grammar at its place
abbrev pub all_read : List Grammar → List (List ℕ) → Bool
all_read [] [] = true
all_read (g ∷ gs) (t ∷ ts) = g.0 t && all_read gs ts
all_read _ _ = false

-- whether the texts of an ask are in their grammars
abbrev pub is_asked : Asked → Bool
is_asked (asked.Question user q) = is_name user.bytes && all_read (grammars (kind_of q)) (texts_of q)
is_asked (asked.Conditional user kind p printed) =
    is_name user.bytes && all_read (grammars Upload) (p.code.bytes ∷ p.serial.bytes ∷ printed.batch.bytes ∷ printed.expiry.bytes ∷ [])
is_asked (asked.Report user c) = is_name user.bytes && all_read report_grammars (c.bytes ∷ [])

-- whether the texts of a line are in their grammars
abbrev pub is_line : Line → Bool
is_line (lines.Ask a) = is_tag_or_none a.tag && is_asked a.asked
is_line lines.Ping = true
is_line lines.Version = true
is_line lines.Help = true
is_line lines.Quit = true

-- a text is read as the line whose text it is, else with its first fault and the tag that it begins with
abbrev pub ReadsLine : List ℕ → Result Line Unread → Type 0
ReadsLine x (Ok l) = (x ≡ line_text l) × (first_fault x ≡ None) × IsTrue (is_line l)
ReadsLine x (Err u) = (first_fault x ≡ Some u.fault) × (u.tag ≡ tag_of x)

-- a line is read in one way only
abbrev pub OneReading : Type 0
OneReading = (x : List ℕ) (r s : Result Line Unread) → ReadsLine x r → ReadsLine x s → r ≡ s

-- the text of each line is read as that line
abbrev pub EachIsRead : Type 0
EachIsRead = (l : Line) → IsTrue (is_line l) → ReadsLine (line_text l) (Ok l)

-- different lines have different texts
abbrev pub OneSpelling : Type 0
OneSpelling = (l m : Line) → IsTrue (is_line l) → IsTrue (is_line m) → line_text l ≡ line_text m → l ≡ m

-- no line is too long
abbrev pub ShortLines : Type 0
ShortLines = (l : Line) → IsTrue (is_line l) → length (line_text l) ≤ 200
