use Rattle.std.proofs.Common.{◌∙◌, refl, sym, ap}
use Rattle.nmvs_http.specs.StreamState.{StreamState}
use Rattle.nmvs_http.proofs.StreamLemmas.{next_of_same}
use Rattle.nmvs_http.proofs.counted_stream.CountedStream.next.Goals as goal

pub returns-clause-next : goal.returns-clause-next
returns-clause-next c =
    next_of_same c.give_held.new.self c.next_given-2.new.self c.args.self.now c.next_given-2.new.self c.next_given-2.result
    (sym (ap (λ (s : StreamState). s.direct) c.if-not-give_held.ensures ∙ c.in-Nothing.ensures.direct))
    (sym (ap (λ (s : StreamState). s.requests) c.if-not-give_held.ensures ∙ c.in-Nothing.ensures.next.0)) refl refl c.next_given-2.ensures.next
