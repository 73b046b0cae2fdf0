use Rattle.std.proofs.Common.{◌≡◌, false}
use Rattle.http_server.specs.Connection.{config_of}
use Rattle.nmvs_http.specs.StreamState.{stream_state}
use Rattle.nmvs_http.proofs.request_stream.discard_output.Given as goal

abbrev pub invariant-loop : goal.invariant-loop
invariant-loop l =
    (stream_state false l.connection ≡ stream_state false l.fn.connection) × (config_of l.connection ≡ config_of l.fn.connection)
