use Rattle.std.proofs.Common.{◌∙◌}
use Rattle.std.proofs.lemmas.Result.{on_ok_weaker}
use Rattle.nmvs_inspect.proofs.listing.write_selected.Goals as goal

pub returns : goal.returns
returns g c =
    on_ok_weaker c.write_entries.result
    (λ w. (w.0, record { these = w.1 ∙ c.deref.ensures.value ∙ c.in_ok-entries.ensures }, w.2)) c.write_entries.ensures
