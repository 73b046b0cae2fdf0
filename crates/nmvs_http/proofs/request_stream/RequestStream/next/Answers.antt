use Rattle.std.proofs.Common.{◌∙◌, ℕ, List, None, refl, sym, ap, subst}
use Rattle.http.specs.declared.request.Request.{Request}
use Rattle.http_server.specs.Connection.{history}
use Rattle.nmvs_http.specs.declared.request_stream.Reader.{Reader}
use Rattle.nmvs_http.specs.StreamState.{StreamState, stream_state}
use Rattle.nmvs_http.specs.Streams.{IsNext}
use Rattle.nmvs_http.proofs.StreamLemmas.{ReadsOne, calls_one, is_next}
use Rattle.nmvs_http.proofs.request_stream.RequestStream.next.Goals as goal

pub returns-clause-next : goal.returns-clause-next
returns-clause-next c =
    let asked = c.advance.new.service.asked in
    let old = stream_state c.self.inside.direct c.self.inside.connection in
    let new = stream_state c.self.inside.direct c.discard_output.new.connection in
    let reader : Reader = record { alloc = c.self.inside.alloc; direct = c.self.inside.direct; asked = None } in
    let one = calls_one (history c.self.inside.connection).calls (history c.advance.new.self).calls reader c.advance.new.service refl c.advance.ensures.calls in
    let all = subst (λ (rs : List (Request (List ℕ))). ReadsOne old.direct old.requests rs asked) (sym (ap (λ (s : StreamState). s.requests) c.discard_output.ensures.stream)) one in
    let stands = c.next_of.ensures new (ap (λ (s : StreamState). s.state) c.discard_output.ensures.stream ∙ sym c.state-state.ensures) in
    subst (λ (s : StreamState). IsNext s new c.next_of.result) c.self.view_is (is_next c.next_of.result asked old new stands all)
