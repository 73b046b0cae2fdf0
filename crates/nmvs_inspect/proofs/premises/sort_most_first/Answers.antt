use Rattle.std.proofs.Common.{rules}
use Rattle.std.proofs.lemmas.List.Sorted.{answers_always, IsNonDecreasingBy-from_sort}
use Rattle.std.proofs.lemmas.Result.{on_ok_weaker}
use Rattle.nmvs_inspect.specs.Premises.{rank}
use Rattle.nmvs_inspect.proofs.premises.sort_most_first.Goals as goal

pub returns : goal.returns
returns c =
    let keys = answers_always _ _ _ (λ f a r next called. search rules) in
    on_ok_weaker c.sort_by_key.result
    (λ sorted. record { sorted = IsNonDecreasingBy-from_sort rank _ (sorted rank keys); stable = c.sort_by_key.ensures.stable rank keys })
    c.sort_by_key.ensures.sorted
