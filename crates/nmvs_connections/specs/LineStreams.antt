-- Streams of lines: over the bytes of a socket, or over HTTP (own).
use Rattle.std.specs.Prelude.{◌≡◌, ◌≢◌, ℕ, Bool, true, false, List, [], ◌++◌, Option, Some, None}
use Rattle.std.specs.Global.{Box}
use Rattle.nmvs_http.specs.Codecs.{AnswersLines, CarriesRequests}
use Rattle.nmvs_messages.specs.declared.end.End.{End}
use Rattle.nmvs_messages.specs.declared.end.End.TheVariants as ends
use Rattle.nmvs_messages.specs.declared.peer.Peer.{Peer}
use Rattle.nmvs_connections.specs.declared.line_stream.Http.{Http}
use Rattle.nmvs_connections.specs.declared.peer_session.Stage.{Stage}
use Rattle.nmvs_connections.specs.declared.peer_session.Stage.TheVariants as stages
use Rattle.nmvs_connections.specs.declared.socket.Moved.{Moved}
use Rattle.nmvs_connections.specs.declared.socket.Moved.TheVariants as moves
use Rattle.nmvs_connections.specs.Traffic.{Traffic}

-- a stream of lines: the bytes of its socket, and the codec that carries its lines over HTTP, if there is one
pub record LineStreamState : Type 0 where
  pub raw : Traffic
  pub http : Option Http

abbrev pub unboxed : Option (Box Http) → Option Http
unboxed None = None
unboxed (Some boxed) = Some boxed.value

-- the bytes of lines and replies that are carried over HTTP. The lines are the bytes before the first request, and then
-- those that the codec gave. The replies are those that it took.
abbrev pub carried_over : Http → Traffic
carried_over h = record { received = h.before.numbers ++ h.codec.given; sent = h.codec.replies }

abbrev pub carried_by : Traffic → Option Http → Traffic
carried_by raw None = raw
carried_by raw (Some h) = carried_over h

-- the bytes of lines and replies: those of the socket, or those that are carried over HTTP
abbrev pub carried : LineStreamState → Traffic
carried s = carried_by s.raw s.http

-- the bytes that came before the first request, if lines are carried over HTTP
abbrev pub before_of : Option Http → Option (List ℕ)
before_of None = None
before_of (Some h) = Some h.before.numbers

-- whether they come directly, and through no gateway, if lines are carried over HTTP
abbrev pub direct_of : Option Http → Option Bool
direct_of None = None
direct_of (Some h) = Some h.codec.stream.direct

-- the bytes of a request that has not come whole
abbrev pub pending_of : Option Http → List ℕ
pending_of None = []
pending_of (Some h) = h.codec.stream.held

-- the bytes read from the socket are those before the first request, those that the codec was fed, and a discarded
-- rest. The bytes written to it are the sent bytes of the codec.
pub record IsFed (raw : Traffic) (h : Http) : Type 0 where
  pub rest : List ℕ
  pub received_is : raw.received ≡ h.before.numbers ++ (h.codec.stream.fed ++ rest)
  pub all : h.discards ≡ false → rest ≡ []
  pub sent_is : raw.sent ≡ h.codec.sent

abbrev pub IsLineStream : Traffic → Option Http → Type 0
IsLineStream raw None = Unit {0}
IsLineStream raw (Some h) = IsFed raw h

abbrev pub CarriesHttp : Traffic → Option Http → Type 0
CarriesHttp raw None = Unit {0}
CarriesHttp raw (Some h) = IsFed raw h × CarriesRequests h.codec

-- over HTTP the bytes of the socket are those of a codec, which carries the requests that it was fed
abbrev pub CarriesLines : LineStreamState → Type 0
CarriesLines s = CarriesHttp s.raw s.http

-- the bytes that were carried after those before the first request are those that a session was fed, and the rest. While its
-- lines are answered, the rest is unread
pub record IsBehind (before received fed unread : List ℕ) (stage : Stage) : Type 0 where
  pub rest : List ℕ
  pub received_is : received ≡ before ++ (fed ++ rest)
  pub left : stage ≡ stages.Serving → rest ≡ unread

-- before the peer is known no line is carried
abbrev pub Behind : Option (List ℕ) → Option Peer → List ℕ → List ℕ → List ℕ → Stage → Type 0
Behind None peer received fed unread stage = Unit {0}
Behind (Some before) None received fed unread stage = ⊥
Behind (Some before) (Some peer) received fed unread stage = IsBehind before received fed unread stage

-- the carried replies are the text of answers to the carried lines, one a line, in order. If the session has ended,
-- they answer the lines up to its end.
pub record AnswersCarried (before : List ℕ) (carried : Traffic) (ended : Bool) : Type 0 where
  pub given : List ℕ
  pub received_is : carried.received ≡ before ++ given
  pub answers : AnswersLines given carried.sent ended

abbrev pub AnswersOver : Option (List ℕ) → Traffic → Bool → Type 0
AnswersOver None carried ended = Unit {0}
AnswersOver (Some before) carried ended = AnswersCarried before carried ended

-- the result of a step that may have moved no byte
abbrev pub moved_of : Option Moved → Moved
moved_of None = moves.Blocked
moved_of (Some moved) = moved

-- the request in hand may be responded to at this stage and this end of the session. All read bytes were taken, or QUIT
-- ended the session.
pub record EndsIn (stage : Stage) (end : Option End) (all ended : Bool) : Type 0 where
  pub stays : stage ≢ stages.Lingering
  pub goes_on : ended ≡ false → (stage ≡ stages.Serving) × (end ≡ None) × (all ≡ true)
  pub quits : ended ≡ true → end ≡ Some ends.Quit
