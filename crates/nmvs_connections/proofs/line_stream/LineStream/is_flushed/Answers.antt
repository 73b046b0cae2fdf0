use Rattle.std.proofs.Common.{Option, subst, sym}
use Rattle.std.specs.Global.{Box}
use Rattle.nmvs_http.specs.Codecs.{CarriesRequests}
use Rattle.nmvs_connections.specs.declared.line_stream.Http.{Http}
use Rattle.nmvs_connections.specs.LineStreams.{CarriesHttp, CarriesLines, IsLineStream, LineStreamState, unboxed}
use Rattle.nmvs_connections.proofs.line_stream.LineStream.is_flushed.Goals as goal

pub returns-in-Some : goal.returns-in-Some
returns-in-Some c =
    let raw = c.self.inside.stream in
    let fed = subst (λ (o : Option (Box Http)). IsLineStream raw (unboxed o)) c.in-Some.is c.self.invariant in
    let carries = subst (λ (h : Http). CarriesRequests h.codec) c.deref.ensures c.unsent.ensures.carries in
    subst (λ (s : LineStreamState). CarriesLines s) c.self.view_is (subst (λ (o : Option (Box Http)). CarriesHttp raw (unboxed o)) (sym c.in-Some.is) (fed, carries))
