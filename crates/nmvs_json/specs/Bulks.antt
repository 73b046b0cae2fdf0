-- The lines that a bulk of questions means (own).
use Rattle.std.specs.Prelude.{ℕ, ◌+◌, ◌&&◌, List, [], ◌∷◌, ◌++◌, length, map, nat_le, nat_lt, codes, Option, Some, None, option_and_then, option_map, ◌==◌, Result, Ok, Err, if◌then◌else◌}
use Rattle.std.specs.Option.{option_map_or}
use Rattle.json.specs.Find.{as_str, get}
use Rattle.json.specs.Json as json
use Rattle.json.specs.Json.{Json, Items}
use Rattle.nmvs_json.specs.declared.asked_kind.AskedKind.{AskedKind}
use Rattle.nmvs_json.specs.declared.question_fault.QuestionFault.{QuestionFault}
use Rattle.nmvs_json.specs.declared.question_fault.QuestionFault.TheVariants as fault
use Rattle.nmvs_json.specs.declared.refusal.Member.{Member}
use Rattle.nmvs_json.specs.declared.refusal.Member.TheVariants as members
use Rattle.nmvs_json.specs.declared.refusal.Refusal.{Refusal}
use Rattle.nmvs_json.specs.declared.subject.Subject.{Subject}
use Rattle.nmvs_json.specs.Questions.{count_of, fields_of, has_list, is_key, kind_named, line_of, object_in, subject_in, text_of, unnamed, with_subject, wrong_member}
use Rattle.nmvs_json.specs.Refusals.{whole}

-- the kind that an item asks: one whose answer is no list
abbrev pub without_list : AskedKind → Option AskedKind
without_list kind = if has_list kind then None else Some kind

abbrev pub item_kind : Json → Option AskedKind
item_kind j = option_and_then without_list (option_and_then kind_named (text_of (codes "ask") j))

-- the first wrong member of an item, by the kind that it asks
abbrev pub wrong_asked : Option AskedKind → Json → Option Member
wrong_asked None j = Some members.Ask
wrong_asked (Some kind) j = wrong_member kind j

-- the fields of the line that an item means, if its members are those of its kind and this number of others
abbrev pub item_fields : ℕ → Json → Option (List (List ℕ))
item_fields others j = option_and_then (λ kind. fields_of others kind j) (item_kind j)

-- the key of an item, if it has one; none is read of a member that is no string
abbrev pub as_key : Option Json → Option (Option (List ℕ))
as_key None = Some None
as_key (Some member) = option_map Some (as_str member)

abbrev pub item_key : Json → Option (Option (List ℕ))
item_key j = as_key (get (codes "key") j)

-- the number of members of an item that name no pack, batch or product: ask, user, and a key if it has one
abbrev pub others_of : Option (List ℕ) → ℕ
others_of None = 2
others_of (Some key) = 3

-- the line of an item with this key, or its first fault
abbrev pub item_line_with : Json → Option (Option (List ℕ)) → Result (List ℕ) QuestionFault
item_line_with j None = Err fault.Key
item_line_with j (Some key) = if is_key key then line_of key (item_fields (others_of key) j) else Err fault.Key

-- the line that an item means, or its first fault
unfoldable pub item_line : Json → Result (List ℕ) QuestionFault
item_line j = item_line_with j (item_key j)

-- these lines and one more, or its fault
abbrev pub appended : List ℕ → Result (List ℕ) QuestionFault → Result (List ℕ) QuestionFault
appended lines (Err f) = Err f
appended lines (Ok line) = Ok (lines ++ line)

-- the first wrong member of an item with this fault
abbrev pub wrong_in : QuestionFault → Json → Option Member
wrong_in fault.Key j = Some members.Key
wrong_in _ j = wrong_asked (item_kind j) j

-- the line of the item of this number, or its refusal
abbrev pub numbered : ℕ → Json → Result (List ℕ) QuestionFault → Result (List ℕ) Refusal
numbered n j (Err f) = Err (record { fault = f; item = Some n; member = wrong_in f j })
numbered n j (Ok line) = Ok line

-- a line and the lines after it, or the first refusal
abbrev pub line_and : Result (List ℕ) Refusal → Result (List ℕ) Refusal → Result (List ℕ) Refusal
line_and (Err f) lines = Err f
line_and (Ok line) (Err f) = Err f
line_and (Ok line) (Ok lines) = Ok (line ++ lines)

-- the lines of items, in order; they are counted from this number on
abbrev pub item_lines : ℕ → List Json → Result (List ℕ) Refusal
item_lines n [] = Ok []
item_lines n (j ∷ js) = line_and (numbered n j (item_line j)) (item_lines (n + 1) js)

-- the values in an array
abbrev pub values_of : Items → List Json
values_of json.no_items = []
values_of (json.item j js) = j ∷ values_of js

abbrev pub as_values : Json → Option (List Json)
as_values (json.array js) = Some (values_of js)
as_values _ = None

-- the most questions of a bulk (own)
abbrev pub most_questions : ℕ
most_questions = 500

-- one item or more, and no more than these
abbrev pub within_most : List Json → Option (List Json)
within_most js = if nat_lt 0 (length js) && nat_le (length js) most_questions then Some js else None

-- the items of a bulk, which is its one member
abbrev pub items_in : Json → Option (List Json)
items_in j = if count_of j == 1 then option_and_then within_most (option_and_then as_values (get (codes "questions") j)) else None

-- the subject of an item that has no fault
unfoldable pub item_subject : Json → Subject
item_subject j = option_map_or (λ kind. subject_in kind j) (item_kind j) unnamed

abbrev pub lines_of_items : Option (List Json) → Result (List Subject × List ℕ) Refusal
lines_of_items None = Err (record { fault = fault.Fields; item = None; member = Some members.Questions })
lines_of_items (Some js) = with_subject (map item_subject js) (item_lines 0 js)

abbrev pub lines_of_object : Option Json → Result (List Subject × List ℕ) Refusal
lines_of_object None = Err (whole fault.Json)
lines_of_object (Some j) = lines_of_items (items_in j)

-- the subject of each question in the body of a bulk, and their lines in order, each with its LF. Or the refusal for
-- the first fault, and then none of them is asked.
unfoldable pub bulk_lines : List ℕ → Result (List Subject × List ℕ) Refusal
bulk_lines body = lines_of_object (object_in body)
