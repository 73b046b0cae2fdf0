use Rattle.std.proofs.Common.{ap, refl}
use Rattle.nmvs_connections.proofs.HttpSteps.{is_fed}
use Rattle.nmvs_connections.proofs.line_stream.feed.Goals as goal

pub returns-clause-fed : goal.returns-clause-fed
returns-clause-fed c =
    λ raw x. let e = c.feed-count.ensures.fed in
    is_fed raw c.args.http.now _ c.args.bytes.now c.feed-count.result c.if-http.false c.feed-count.ensures.within (ap (λ k. k.stream.fed) e) (ap (λ k. k.sent) e) refl refl x
