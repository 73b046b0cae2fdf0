use Rattle.std.proofs.Common.{◌≡◌, ◌++◌, List, ℕ, length}
use Rattle.http_server.specs.Connection.{config_of}
use Rattle.nmvs_http.specs.StreamState.{request_limits, stream_state}
use Rattle.nmvs_http.proofs.request_stream.RequestStream.feed.Given as goal

abbrev pub invariant-loop-rest : goal.invariant-loop-rest
invariant-loop-rest l =
    (taken : List ℕ) × (taken ++ l.rest ≡ l.more) × (stream_state l.self-inside.direct l.self-inside.connection ≡ record l.fn.self { fed = l.fn.self.fed ++ taken })
    × (config_of l.self-inside.connection ≡ request_limits)

abbrev pub decreases-loop-rest : goal.decreases-loop-rest
decreases-loop-rest l = length l.rest
