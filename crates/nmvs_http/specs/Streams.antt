-- The requests that are read from a stream of bytes (own).
use Rattle.std.specs.Prelude.{◌≡◌, ◌≢◌, ◌↔◌, ◌==◌, ℕ, Bool, true, List, [], ◌∷◌, ◌++◌, Option, Some, None, if◌then◌else◌}
use Rattle.http.specs.declared.error.Error.{Error}
use Rattle.http.specs.declared.error.Error.TheVariants.{HeaderName, MaxSizeReached, Uri}
use Rattle.http.specs.declared.request.Request.{Request}
use Rattle.http_uri.specs.Error.{is_too_long}
use Rattle.http1.specs.Message as Wire
use Rattle.http1.specs.ReadError.{status_of}
use Rattle.http_server.specs.declared.state.Config.{Config}
use Rattle.http_server.specs.declared.state.Reason.TheVariants as reasons
use Rattle.http_server.specs.declared.state.Refusal.{Refusal}
use Rattle.http_server.specs.declared.state.Refusal.TheVariants.{Unreadable, BodyTooLarge, InvalidPart, UnknownCoding}
use Rattle.http_server.specs.declared.state.State.TheVariants as states
use Rattle.http_server.specs.Exchange.{ReadsCall}
use Rattle.nmvs_http.specs.declared.fault.Fault.{Fault}
use Rattle.nmvs_http.specs.declared.fault.Fault.TheVariants as faults
use Rattle.nmvs_http.specs.declared.request_stream.Asked.{Asked}
use Rattle.nmvs_http.specs.declared.request_stream.Next.{Next}
use Rattle.nmvs_http.specs.declared.request_stream.Next.TheVariants as nexts
use Rattle.nmvs_http.specs.Requests.{asks_of, carried_by, wants_head}
use Rattle.nmvs_http.specs.StreamState.{StreamState}

-- the stream is these requests of HTTP/1.1's grammar (RFC 9112), one after the other, and then the rest
abbrev pub ReadsRequests : Config → List ℕ → List (Request (List ℕ)) → List ℕ → Type 0
ReadsRequests config stream [] rest = stream ≡ rest
ReadsRequests config stream (r ∷ requests) rest =
    (message : Wire.Request) × (after : List ℕ) × ReadsCall config stream message r after × ReadsRequests config after requests rest

-- the record has the kind and the lines of the request, and whether it wants the head alone
abbrev pub ReadsAsked : Bool → Request (List ℕ) → Option Asked → Type 0
ReadsAsked direct request None = ⊥
ReadsAsked direct request (Some asked) =
    (asked.asks ≡ asks_of direct request) × (asked.head_alone ≡ wants_head request) × (asked.lines ≡ carried_by direct request)

-- the fault of a part of a head
abbrev pub part_fault : Error → Fault
part_fault HeaderName = faults.Head
part_fault MaxSizeReached = faults.Head
part_fault (Uri error) = if is_too_long error then faults.Target else faults.Request
part_fault _ = faults.Request

-- the fault of a head or a body that cannot be read
abbrev pub reading_fault : ℕ → Fault
reading_fault status = if status == 414 then faults.Target else (if status == 431 then faults.Head else faults.Request)

-- the fault of a refused request
unfoldable pub fault_of : Refusal → Fault
fault_of (Unreadable error) = reading_fault (status_of error)
fault_of (InvalidPart error) = part_fault error
fault_of BodyTooLarge = faults.Body
fault_of UnknownCoding = faults.Coding
fault_of _ = faults.Request

-- the next item, by the request that was read and the state of the connection
abbrev pub IsNextOf : Option Asked → StreamState → Next → Type 0
IsNextOf asked new nexts.Nothing = (asked ≡ None) × (new.state ≡ states.Open)
IsNextOf asked new nexts.Invitation = (asked ≡ None) × (new.state ≡ states.Open)
IsNextOf asked new (nexts.Request a stays) = (asked ≡ Some a) × (new.state ≢ states.Aborted) × (stays ≡ true ↔ new.state ≡ states.Open)
IsNextOf asked new (nexts.Refused fault) =
    (asked ≡ None) × ((why : Refusal) × (new.state ≡ states.Closing (reasons.Refused why)) × (fault ≡ fault_of why))
IsNextOf asked new nexts.Lost = Unit {0}

-- the next item of a stream: one more request, or none; the connection stays open exactly if the stream does
abbrev pub IsNext : StreamState → StreamState → Next → Type 0
IsNext old new nexts.Nothing = (new.requests ≡ old.requests) × (new.state ≡ states.Open)
IsNext old new nexts.Invitation = (new.requests ≡ old.requests) × (new.state ≡ states.Open)
IsNext old new (nexts.Request asked stays) =
    ((request : Request (List ℕ)) × (new.requests ≡ old.requests ++ request ∷ []) × ReadsAsked old.direct request (Some asked)) × (new.state ≢ states.Aborted) × (stays ≡ true ↔ new.state ≡ states.Open)
IsNext old new (nexts.Refused fault) =
    (new.requests ≡ old.requests) × ((why : Refusal) × (new.state ≡ states.Closing (reasons.Refused why)) × (fault ≡ fault_of why))
IsNext old new nexts.Lost = Unit {0}
