use Rattle.std.proofs.Common.{◌≢◌, ◌++◌, ℕ, List, subst}
use Rattle.std.proofs.Math.Logic.{∥∥₁_map}
use Rattle.http_server.specs.declared.state.State.TheVariants as states
use Rattle.nmvs_http.specs.StreamState.{StreamState, bytes_of, request_limits}
use Rattle.nmvs_http.specs.Streams.{ReadsRequests}
use Rattle.nmvs_http.proofs.StreamLemmas.{reads_more}
use Rattle.nmvs_http.proofs.counted_stream.CountedStream.note_read.Goals as goal

pub returns : goal.returns
returns c =
    let is = c.self.inside in
    subst (λ (s : StreamState). s.state ≢ states.Aborted → ∥ ((rest : List ℕ) × ReadsRequests request_limits s.fed s.requests rest) ∥₁) c.self.view_is
    (λ sound. ∥∥₁_map (c.note_read.ensures sound) (λ x. (x.0 ++ bytes_of is.held, reads_more request_limits is.requests.fed is.requests.requests x.0 (bytes_of is.held) x.1)))
