use Rattle.std.proofs.Common.{refl, sym, ap}
use Rattle.nmvs_http.specs.StreamState.{StreamState, with_held}
use Rattle.nmvs_http.proofs.StreamLemmas.{next_of_same}
use Rattle.nmvs_http.proofs.counted_stream.CountedStream.next_given.Goals as goal

pub returns-after-is_some-clause-next : goal.returns-after-is_some-clause-next
returns-after-is_some-clause-next c =
    next_of_same c.self.inside.requests c.next-next.new.self c.args.self.now (with_held c.next-next.new.self c.self.inside.held) c.next-next.result (sym (ap (λ (s : StreamState). s.direct) c.self.view_is)) (sym (ap (λ (s : StreamState). s.requests) c.self.view_is)) refl refl c.next-next.ensures.next
