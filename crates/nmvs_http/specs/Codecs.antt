-- HTTP as a carrier of lines: the lines of requests, and the messages to their senders (own).
use Rattle.std.specs.Prelude.{◌≡◌, ◌≢◌, ◌≤◌, ◌⊎◌, ℕ, Bool, true, false, List, [], ◌∷◌, ◌++◌, length, take, Option, Some, None}
use Rattle.http.specs.declared.request.Request.{Request}
use Rattle.http_server.specs.declared.state.State.TheVariants as states
use Rattle.nmvs_messages.specs.declared.answer.Answer.{Answer}
use Rattle.nmvs_stream.specs.InputLines.{input_lines}
use Rattle.nmvs_protocol.specs.Session.{session_text}
use Rattle.nmvs_http.specs.declared.asked.Asks.TheVariants as asks
use Rattle.nmvs_http.specs.declared.codec.CodecStage.{CodecStage}
use Rattle.nmvs_http.specs.declared.codec.CodecStage.TheVariants as stages
use Rattle.nmvs_http.specs.declared.codec.Decoded.{Decoded}
use Rattle.nmvs_http.specs.declared.codec.Decoded.TheVariants as decoded
use Rattle.nmvs_http.specs.declared.codec.Hand.{Hand}
use Rattle.nmvs_http.specs.declared.fault.Fault.{Fault}
use Rattle.nmvs_http.specs.Requests.{asks_of, carried_by, wants_head}
use Rattle.nmvs_http.specs.Responses.{invitation_text, response_text}
use Rattle.nmvs_http.specs.StreamState.{StreamState, request_limits}
use Rattle.nmvs_http.specs.Streams.{ReadsRequests}

-- a request and its response. It has the bytes of lines that were given of it, those that were left, and the replies.
-- It says whether the session of lines ended in it, and whether the connection stays open after it.
pub record Exchange : Type 0 where
  pub request : Request (List ℕ)
  pub lines : List ℕ
  pub left : List ℕ
  pub replies : List ℕ
  pub ended : Bool
  pub stays : Bool

-- a message to the peer: an invitation to send the body of a request, the response to a request, or a refusal
pub data Message : Type 0 where
  invitation : Message
  response : Exchange → Message
  refusal : Fault → Message

-- the text of a message over a stream that comes directly or not
abbrev pub message_text : Bool → Message → List ℕ
message_text direct invitation = invitation_text
message_text direct (response e) = response_text (asks_of direct e.request) (wants_head e.request) e.stays e.replies
message_text direct (refusal fault) = response_text (asks.Refused fault) false false []

-- the text of messages; the list has the last one first
abbrev pub text_of : Bool → List Message → List ℕ
text_of direct [] = []
text_of direct (m ∷ earlier) = text_of direct earlier ++ message_text direct m

-- the requests that were responded to, the bytes of lines that were given of them, and the replies to them
abbrev pub requests_in : List Message → List (Request (List ℕ))
requests_in [] = []
requests_in (response e ∷ earlier) = requests_in earlier ++ e.request ∷ []
requests_in (_ ∷ earlier) = requests_in earlier

abbrev pub lines_in : List Message → List ℕ
lines_in [] = []
lines_in (response e ∷ earlier) = lines_in earlier ++ e.lines
lines_in (_ ∷ earlier) = lines_in earlier

abbrev pub replies_in : List Message → List ℕ
replies_in [] = []
replies_in (response e ∷ earlier) = replies_in earlier ++ e.replies
replies_in (_ ∷ earlier) = replies_in earlier

-- the replies are the text of one answer to each given line, in order. If the session of lines has ended, they answer
-- each line up to its end.
pub record AnswersLines (given replies : List ℕ) (ended : Bool) : Type 0 where
  pub fed : List ℕ
  pub rest : List ℕ
  pub given_is : given ≡ fed ++ rest
  pub said : List Answer
  pub one : length said ≡ length (input_lines fed)
  pub text : session_text said ≡ replies
  pub all : ended ≡ false → rest ≡ []

-- the lines of a request are given whole, unless the session of lines ended in it; the connection closes then
pub record IsCarried (direct : Bool) (e : Exchange) : Type 0 where
  pub lines : e.lines ++ e.left ≡ carried_by direct e.request
  pub whole : e.ended ≡ false → e.left ≡ []
  pub closes : e.ended ≡ true → e.stays ≡ false

-- the last message leaves the connection open
abbrev pub StaysOpen : List Message → Type 0
StaysOpen [] = Unit {0}
StaysOpen (invitation ∷ earlier) = Unit {0}
StaysOpen (response e ∷ earlier) = e.stays ≡ true
StaysOpen (refusal fault ∷ earlier) = ⊥

-- each message was written while the connection was open. At each response, the replies so far are the text of the
-- answers to the lines given so far.
abbrev pub AreTold : Bool → List Message → Type 0
AreTold direct [] = Unit {0}
AreTold direct (response e ∷ earlier) =
    StaysOpen earlier × IsCarried direct e × AnswersLines (lines_in earlier ++ e.lines) (replies_in earlier ++ e.replies) e.ended × AreTold direct earlier
AreTold direct (_ ∷ earlier) = StaysOpen earlier × AreTold direct earlier

-- a codec. It has its stage, the bytes of HTTP that it was fed, the requests read from them, and the request in hand.
-- It has the bytes of lines that it gave, the replies that it took, and those of them to the request in hand. It has
-- the bytes that it sent, and the unsent ones.
pub record CodecState : Type 0 where
  pub stage : CodecStage
  pub stream : StreamState
  pub hand : Option Hand
  pub given : List ℕ
  pub replies : List ℕ
  pub gathered : List ℕ
  pub sent : List ℕ
  pub unsent : List ℕ

-- these bytes were given of the request in hand, which comes after the requests that have a response
pub record HasRequest (direct : Bool) (h : Hand) (given : List ℕ) (earlier requests : List (Request (List ℕ))) : Type 0 where
  pub request : Request (List ℕ)
  pub next : requests ≡ earlier ++ request ∷ []
  pub asks : h.asks ≡ asks_of direct request
  pub head_alone : h.head_alone ≡ wants_head request
  pub lines : given ++ h.lines ≡ carried_by direct request

abbrev pub InHand : Bool → Option Hand → List ℕ → List (Request (List ℕ)) → List (Request (List ℕ)) → Type 0
InHand direct None given earlier requests = (given ≡ []) × (requests ≡ earlier)
InHand direct (Some h) given earlier requests = HasRequest direct h given earlier requests

-- the sent and unsent bytes are messages, in which each response is to the next request. The given bytes are the lines
-- of these requests in order, and the taken replies are those of their responses. The rest is of the request in hand.
pub record Carries (direct : Bool) (c : CodecState) : Type 0 where
  pub messages : List Message
  pub told : AreTold direct messages
  pub open_still : c.stage ≡ stages.Open → StaysOpen messages
  pub begun : List ℕ
  pub in_hand : InHand direct c.hand begun (requests_in messages) c.stream.requests
  pub given_is : c.given ≡ lines_in messages ++ begun
  pub replies_is : c.replies ≡ replies_in messages ++ c.gathered
  pub text_is : c.sent ++ c.unsent ≡ text_of direct messages

-- the invariant of a codec, unless memory ran out
abbrev pub IsCodec : CodecState → Type 0
IsCodec c = c.stage ≢ stages.Lost → Carries c.stream.direct c × (c.stream.state ≢ states.Aborted)

-- unless memory ran out, a codec carries the requests that its bytes begin with, each of HTTP's grammar
abbrev pub CarriesRequests : CodecState → Type 0
CarriesRequests c =
    c.stage ≢ stages.Lost → Carries c.stream.direct c × ∥ ((rest : List ℕ) × ReadsRequests request_limits c.stream.fed c.stream.requests rest) ∥₁

-- the fed bytes, the replies and the sent bytes are as before; the unsent bytes may have grown
pub record GoesOn (old new : CodecState) : Type 0 where
  pub fed : new.stream.fed ≡ old.stream.fed
  pub replies : new.replies ≡ old.replies
  pub sent : new.sent ≡ old.sent
  pub text : List ℕ
  pub unsent : new.unsent ≡ old.unsent ++ text

-- the result of a read: bytes of lines at the front of the buffer, or none
abbrev pub Decodes : CodecState → CodecState → List ℕ → Decoded → Type 0
Decodes old new buffer (decoded.Lines count) =
    GoesOn old new × (count ≤ length buffer) × (new.given ≡ old.given ++ take count buffer)
Decodes old new buffer _ = GoesOn old new × (new.given ≡ old.given)

-- the text was written, and the codec is in this stage; or there was no memory for it
abbrev pub Tells : List ℕ → List ℕ → List ℕ → CodecStage → CodecStage → Type 0
Tells old new text stands result = ((new ≡ old ++ text) × (result ≡ stands)) ⊎ ((new ≡ old) × (result ≡ stages.Lost))

-- the bytes of lines that a read gave, at the front of the buffer
abbrev pub bytes_given : Decoded → List ℕ → List ℕ
bytes_given (decoded.Lines count) buffer = take count buffer
bytes_given _ buffer = []

abbrev pub Fits : Decoded → List ℕ → Type 0
Fits (decoded.Lines count) buffer = count ≤ length buffer
Fits _ buffer = Unit {0}

-- these bytes were given of the request in hand
abbrev pub HandGives : Option Hand → Option Hand → List ℕ → Type 0
HandGives (Some old) (Some new) bytes = (old.lines ≡ bytes ++ new.lines) × (new.asks ≡ old.asks) × (new.head_alone ≡ old.head_alone)
HandGives None None bytes = bytes ≡ []
HandGives _ _ bytes = ⊥
