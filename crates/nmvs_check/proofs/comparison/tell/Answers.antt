use Rattle.std.proofs.Common.{◌∙◌, ℕ, List, subst}
use Rattle.nmvs_stream.specs.Delivery.{Delivers}
use Rattle.nmvs_check.proofs.comparison.tell.Goals as goal

pub returns-in_ok-write-in-None : goal.returns-in_ok-write-in-None
returns-in_ok-write-in-None g c =
    let text = c.deref.ensures ∙ c.in_ok-on_text-in-None.ensures in (
      c.in_ok-first_departure.ensures.goes_on.0 c.in-None.is,
      subst (λ (t : List ℕ). Delivers (g.W.Sink.taken c.args.sink.now) (g.W.Sink.taken c.write.new.sink) t) text c.in_ok-write-in-None.ensures,
    )
