use Rattle.std.proofs.Common.{◌≢◌, ℕ, List, subst}
use Rattle.http_server.specs.declared.state.State.TheVariants as states
use Rattle.nmvs_http.specs.StreamState.{StreamState, request_limits}
use Rattle.nmvs_http.specs.Streams.{ReadsRequests}
use Rattle.nmvs_http.proofs.StreamLemmas.{stream_read}
use Rattle.nmvs_http.proofs.request_stream.RequestStream.note_read.Goals as goal

pub returns : goal.returns
returns c =
    subst (λ (s : StreamState). s.state ≢ states.Aborted → ∥ ((rest : List ℕ) × ReadsRequests request_limits s.fed s.requests rest) ∥₁)
    c.self.view_is (stream_read c.self.inside.direct c.self.inside.connection c.self.invariant)
