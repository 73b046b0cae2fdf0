-- The text of a response (RFC 9112, section 4).
use Rattle.std.specs.Prelude.{ℕ, Bool, true, false, List, [], ◌++◌, length, codes, Option, Some, None, if◌then◌else◌}
use Rattle.std.specs.Fmt.{decimal}
use Rattle.nmvs_stream.specs.InputLines.{input_lines}
use Rattle.nmvs_messages.specs.declared.fault.Problem.{Problem}
use Rattle.nmvs_messages.specs.declared.fault.Problem.TheVariants as problems
use Rattle.nmvs_json.specs.Refusals.{refusal_text}
use Rattle.nmvs_json.specs.Replies.{problem_of}
use Rattle.nmvs_json.specs.Replies as json
use Rattle.nmvs_http.specs.declared.asked.Asks.{Asks}
use Rattle.nmvs_http.specs.declared.asked.Asks.TheVariants.{Lines, Question, Questions, Health, Refused, Malformed}
use Rattle.nmvs_http.specs.declared.fault.Fault.{Fault}
use Rattle.nmvs_http.specs.declared.fault.Fault.TheVariants as faults

-- the status of a fault (RFC 9110, section 15), and fields that go with it
abbrev pub status : Fault → List ℕ
status faults.Request = codes "400 Bad Request"
status faults.Site = codes "403 Forbidden"
status faults.Path = codes "404 Not Found"
status faults.MethodNotPost = codes "405 Method Not Allowed\r\nallow: POST"
status faults.MethodNotGet = codes "405 Method Not Allowed\r\nallow: GET, HEAD"
status faults.Timeout = codes "408 Request Timeout"
status faults.Length = codes "411 Length Required"
status faults.Body = codes "413 Content Too Large"
status faults.Target = codes "414 URI Too Long"
status faults.Type = codes "415 Unsupported Media Type"
status faults.Host = codes "421 Misdirected Request"
status faults.Head = codes "431 Request Header Fields Too Large"
status faults.Coding = codes "501 Not Implemented"
status faults.Busy = codes "503 Service Unavailable\r\nretry-after: 1"

-- the problem of a fault, of which nothing is recorded (RFC 9457). Its type is the section of the page that says what
-- to do, relative to the server. The members fault and recorded are own.
unfoldable pub problem : Fault → List ℕ
problem faults.Request = codes "{\"type\":\"/problems#REQUEST\",\"title\":\"Bad Request\",\"status\":400,\"detail\":\"The bytes are no request of HTTP/1.1.\",\"fault\":\"REQUEST\",\"recorded\":\"no\"}\n"
problem faults.Site = codes "{\"type\":\"/problems#SITE\",\"title\":\"Forbidden\",\"status\":403,\"detail\":\"A page of another site sent the request.\",\"fault\":\"SITE\",\"recorded\":\"no\"}\n"
problem faults.Path = codes "{\"type\":\"/problems#PATH\",\"title\":\"Not Found\",\"status\":404,\"detail\":\"Nothing is at this path.\",\"fault\":\"PATH\",\"recorded\":\"no\"}\n"
problem faults.MethodNotPost = codes "{\"type\":\"/problems#METHOD\",\"title\":\"Method Not Allowed\",\"status\":405,\"detail\":\"The path takes another method.\",\"fault\":\"METHOD\",\"recorded\":\"no\"}\n"
problem faults.MethodNotGet = codes "{\"type\":\"/problems#METHOD\",\"title\":\"Method Not Allowed\",\"status\":405,\"detail\":\"The path takes another method.\",\"fault\":\"METHOD\",\"recorded\":\"no\"}\n"
problem faults.Timeout = codes "{\"type\":\"/problems#TIMEOUT\",\"title\":\"Request Timeout\",\"status\":408,\"detail\":\"The request did not come whole in time.\",\"fault\":\"TIMEOUT\",\"recorded\":\"no\"}\n"
problem faults.Length = codes "{\"type\":\"/problems#LENGTH\",\"title\":\"Length Required\",\"status\":411,\"detail\":\"Neither a length nor chunks say where the body ends.\",\"fault\":\"LENGTH\",\"recorded\":\"no\"}\n"
problem faults.Body = codes "{\"type\":\"/problems#BODY\",\"title\":\"Content Too Large\",\"status\":413,\"detail\":\"The body has over 131072 bytes.\",\"fault\":\"BODY\",\"recorded\":\"no\"}\n"
problem faults.Target = codes "{\"type\":\"/problems#TARGET\",\"title\":\"URI Too Long\",\"status\":414,\"detail\":\"The target has over 16 KiB.\",\"fault\":\"TARGET\",\"recorded\":\"no\"}\n"
problem faults.Type = codes "{\"type\":\"/problems#TYPE\",\"title\":\"Unsupported Media Type\",\"status\":415,\"detail\":\"The path takes a body of another type.\",\"fault\":\"TYPE\",\"recorded\":\"no\"}\n"
problem faults.Host = codes "{\"type\":\"/problems#HOST\",\"title\":\"Misdirected Request\",\"status\":421,\"detail\":\"Host names neither an address nor localhost, and no gateway stands in front of the server.\",\"fault\":\"HOST\",\"recorded\":\"no\"}\n"
problem faults.Head = codes "{\"type\":\"/problems#HEAD\",\"title\":\"Request Header Fields Too Large\",\"status\":431,\"detail\":\"The head has over 16 KiB or over 64 fields.\",\"fault\":\"HEAD\",\"recorded\":\"no\"}\n"
problem faults.Coding = codes "{\"type\":\"/problems#CODING\",\"title\":\"Not Implemented\",\"status\":501,\"detail\":\"The server decodes no coding of a body but chunks.\",\"fault\":\"CODING\",\"recorded\":\"no\"}\n"
problem faults.Busy = codes "{\"type\":\"/problems#BUSY\",\"title\":\"Service Unavailable\",\"status\":503,\"detail\":\"The server has no room for one connection more. Connect again.\",\"fault\":\"BUSY\",\"recorded\":\"no\"}\n"

-- the status of the response to one question, by the problem in its text: 200 exactly if there is none
abbrev pub status_where : Option Problem → List ℕ
status_where None = codes "200 OK"
status_where (Some problems.Unprocessable) = codes "422 Unprocessable Content"
status_where (Some problems.Forbidden) = codes "403 Forbidden"
status_where (Some problems.Conflict) = codes "409 Conflict"
status_where (Some problems.PreconditionFailed) = codes "412 Precondition Failed"
status_where (Some problems.TooManyRequests) = codes "429 Too Many Requests\r\nretry-after: 1"
status_where (Some problems.Unavailable) = codes "503 Service Unavailable\r\nretry-after: 1"
status_where (Some problems.Unknown) = codes "503 Service Unavailable"

-- the type of its body
abbrev pub type_where : Option Problem → List ℕ
type_where None = codes "application/json"
type_where (Some problem) = codes "application/problem+json"

-- the status of the response to a bulk. It has the time after which to ask again if the response to one of its
-- questions would have it (RFC 9110, section 10.2.3).
abbrev pub bulk_status : Bool → List ℕ
bulk_status true = codes "200 OK\r\nretry-after: 1"
bulk_status false = codes "200 OK"

-- the status of the response: 200 to lines and to a bulk, exactly if they are not refused
abbrev pub status_of : Asks → List ℕ → List ℕ
status_of Lines replies = codes "200 OK"
status_of (Question subject) replies = status_where (problem_of replies)
status_of (Questions subjects) replies = bulk_status (json.has_passing subjects (input_lines replies))
status_of Health replies = codes "200 OK"
status_of (Refused fault) replies = status fault
status_of (Malformed refusal) replies = codes "400 Bad Request"

-- the type of its body
abbrev pub type_of : Asks → List ℕ → List ℕ
type_of Lines replies = codes "application/vnd.nmvs.lines"
type_of (Question subject) replies = type_where (problem_of replies)
type_of (Questions subjects) replies = codes "application/json"
type_of Health replies = codes "text/plain; charset=utf-8"
type_of (Refused fault) replies = codes "application/problem+json"
type_of (Malformed refusal) replies = codes "application/problem+json"

-- its body: the replies to lines, word for word; the reply to one question, or those to a bulk, as JSON
abbrev pub body_text : Asks → List ℕ → List ℕ
body_text Lines replies = replies
body_text (Question subject) replies = json.body_text subject replies
body_text (Questions subjects) replies = json.bulk_text subjects replies
body_text Health replies = codes "ok\n"
body_text (Refused fault) replies = problem fault
body_text (Malformed refusal) replies = refusal_text refusal

-- first lines of this status and type
unfoldable pub front_of : List ℕ → List ℕ → List ℕ
front_of status kind = codes "HTTP/1.1 " ++ (status ++ (codes "\r\ncontent-type: " ++ (kind ++ codes "\r\ncache-control: no-store\r\n")))

-- its first lines: the status, and the fields that describe the body
abbrev pub front_text : Asks → List ℕ → List ℕ
front_text asks replies = front_of (status_of asks replies) (type_of asks replies)

-- the field of the connection, and that of the body's length up to its number
abbrev pub connection_text : Bool → List ℕ
connection_text true = codes "connection: keep-alive\r\ncontent-length: "
connection_text false = codes "connection: close\r\ncontent-length: "

-- the head of a response whose body has this number of bytes
abbrev pub head_text : List ℕ → Bool → ℕ → List ℕ
head_text front stays count = (front ++ connection_text stays) ++ (decimal count ++ codes "\r\n\r\n")

-- a response of these first lines and this body, which is left out if the head alone is wanted
abbrev pub composed_text : List ℕ → Bool → Bool → List ℕ → List ℕ
composed_text front head_alone stays body =
    head_text front stays (length body) ++ (if head_alone then [] else body)

-- the response to a request of this kind, with these replies
abbrev pub response_text : Asks → Bool → Bool → List ℕ → List ℕ
response_text asks head_alone stays replies = composed_text (front_text asks replies) head_alone stays (body_text asks replies)

-- the response that invites a peer to send the body of its request (RFC 9110, section 15.2.1)
abbrev pub invitation_text : List ℕ
invitation_text = codes "HTTP/1.1 100 Continue\r\n\r\n"
