-- A stream of requests, as contracts see it (own).
use Rattle.std.specs.Prelude.{ℕ, Bool, List, [], ◌∷◌, ◌++◌, Option, Some, None, map}
use Rattle.http.specs.declared.request.Request.{Request}
use Rattle.http_server.specs.declared.connection.Connection.{Connection}
use Rattle.http_server.specs.declared.state.Config.{Config}
use Rattle.http_server.specs.declared.state.State.{State}
use Rattle.http_server.specs.Connection.{history}

-- whether a stream comes directly, and through no gateway. Its bytes, the requests read from it, and the state of its
-- connection. Its last bytes, which follow its requests and are held back.
pub record StreamState : Type 0 where
  pub direct : Bool
  pub fed : List ℕ
  pub requests : List (Request (List ℕ))
  pub state : State
  pub held : List ℕ

-- the stream that a connection reads
abbrev pub stream_state : Bool → Connection → StreamState
stream_state direct c = record { direct = direct; fed = (history c).received; requests = map (λ call. call.0) (history c).calls; state = (history c).state; held = [] }

abbrev pub bytes_of : Option ℕ → List ℕ
bytes_of None = []
bytes_of (Some byte) = byte ∷ []

-- a stream, and a byte after it that is held back, if there is one
abbrev pub with_held : StreamState → Option ℕ → StreamState
with_held s held = record s { fed = s.fed ++ bytes_of held; held = bytes_of held }

-- the limits of a request: 16 KiB each for its head, its chunk extensions and its trailers, 128 KiB for its body (own)
abbrev pub request_limits : Config
request_limits = record {
  limits = record { max_head_len = 16384; max_extensions_len = 16384; max_trailers_len = 16384 };
  max_body_len = 131072;
  max_pending = 25;
  read_size = 4096;
}
