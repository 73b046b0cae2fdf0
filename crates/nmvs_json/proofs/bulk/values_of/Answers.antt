use Rattle.std.proofs.Common.{◌∙◌, Some, map, sym, ap}
use Rattle.json.specs.Value.{value_view}
use Rattle.nmvs_json.specs.Bulks.{as_values}
use Rattle.nmvs_json.proofs.BulkLemmas.{array_values}
use Rattle.nmvs_json.proofs.bulk.values_of.Goals as goal

pub returns-in-Array : goal.returns-in-Array
returns-in-Array c =
    ap (λ vs. Some (map (λ v. value_view v) vs)) c.as_slice.ensures.value ∙ sym (array_values c.in-Array.values) ∙ sym (ap (λ v. as_values (value_view v)) c.in-Array.is)
