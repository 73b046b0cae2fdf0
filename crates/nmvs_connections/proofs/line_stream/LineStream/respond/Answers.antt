use Rattle.std.proofs.Common.{Option, subst, sym}
use Rattle.std.specs.Global.{Box}
use Rattle.nmvs_http.specs.Codecs.{AnswersLines}
use Rattle.nmvs_connections.specs.declared.line_stream.Http.{Http}
use Rattle.nmvs_connections.specs.LineStreams.{AnswersOver, LineStreamState, before_of, carried, carried_by, unboxed}
use Rattle.nmvs_connections.proofs.HttpSteps.{answers_own}
use Rattle.nmvs_connections.proofs.line_stream.LineStream.respond.Goals as goal

pub respond_over-requires : goal.respond_over-requires
respond_over-requires c =
    subst (λ (h : Http). AnswersLines h.codec.given h.codec.replies c.args.ended) (sym c.deref_mut.ensures.value)
    (answers_own c.self.inside.stream c.in-Some.http.value c.args.ended
    (subst (λ (o : Option (Box Http)). AnswersOver (before_of (unboxed o)) (carried_by c.self.inside.stream (unboxed o)) c.args.ended) c.in-Some.is
    (subst (λ (s : LineStreamState). AnswersOver (before_of s.http) (carried s) c.args.ended) (sym c.self.view_is) c.requires)))
