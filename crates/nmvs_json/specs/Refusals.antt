-- The refusals of bodies of JSON, and their problems (RFC 9457; fault, recorded, item and member are own).
use Rattle.std.specs.Prelude.{ℕ, List, [], ◌++◌, codes, Option, Some, None}
use Rattle.std.specs.Fmt.{decimal}
use Rattle.nmvs_json.specs.declared.question_fault.QuestionFault.{QuestionFault}
use Rattle.nmvs_json.specs.declared.question_fault.QuestionFault.TheVariants as fault
use Rattle.nmvs_json.specs.declared.refusal.Member.{Member}
use Rattle.nmvs_json.specs.declared.refusal.Member.TheVariants as members
use Rattle.nmvs_json.specs.declared.refusal.Refusal.{Refusal}

-- the name of a member
abbrev pub member_name : Member → List ℕ
member_name members.User = codes "user"
member_name members.Code = codes "code"
member_name members.Serial = codes "serial"
member_name members.Batch = codes "batch"
member_name members.Expiry = codes "expiry"
member_name members.Scan = codes "scan"
member_name members.Scanned = codes "scanned"
member_name members.IfScanned = codes "if_scanned"
member_name members.Ask = codes "ask"
member_name members.Key = codes "key"
member_name members.Questions = codes "questions"

-- the refusal of a whole body
abbrev pub whole : QuestionFault → Refusal
whole f = record { fault = f; item = None; member = None }

-- the problem of a fault up to the place of the fault; no request gets that of MEMORY, which ends its connection
unfoldable pub front_of : QuestionFault → List ℕ
front_of fault.Key = codes "{\"type\":\"/problems#KEY\",\"title\":\"Bad Request\",\"status\":400,\"detail\":\"A key is 1 to 40 letters, digits, dots, underscores and hyphens, a letter or digit first. A question has one at most.\",\"fault\":\"KEY\",\"recorded\":\"no\""
front_of fault.Json = codes "{\"type\":\"/problems#JSON\",\"title\":\"Bad Request\",\"status\":400,\"detail\":\"The body is no JSON object, or an object in it has a member twice.\",\"fault\":\"JSON\",\"recorded\":\"no\""
front_of fault.Fields = codes "{\"type\":\"/problems#FIELDS\",\"title\":\"Bad Request\",\"status\":400,\"detail\":\"A member is missing, unknown or of another type, or a value is empty or has a character outside ! to ~.\",\"fault\":\"FIELDS\",\"recorded\":\"no\""
front_of fault.Memory = []

-- the number of the question in a bulk, counted from 0, and the name of the member
abbrev pub item_text : Option ℕ → List ℕ
item_text None = []
item_text (Some n) = codes ",\"item\":" ++ decimal n

abbrev pub member_text : Option Member → List ℕ
member_text None = []
member_text (Some member) = codes ",\"member\":\"" ++ (member_name member ++ codes "\"")

-- the problem of a refusal
unfoldable pub refusal_text : Refusal → List ℕ
refusal_text refusal = front_of refusal.fault ++ (item_text refusal.item ++ (member_text refusal.member ++ codes "}\n"))
