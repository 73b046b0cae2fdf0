use Rattle.std.proofs.Common.{rules, take, ap, ◌∙◌}
use Rattle.std.proofs.lemmas.List.Sorted.{answers_always, IsNonDecreasingBy-from_sort}
use Rattle.nmvs_reception.specs.Alerts.{row_count}
use Rattle.nmvs_reception.proofs.tally.keep_most.Goals as goal

pub returns : goal.returns
returns c =
    let keys = answers_always _ _ _ (λ f a r next called. search rules) in
    record {
      all = c.sort_by_key.new.self.items;
      same = c.in_ok-sort_by_key.ensures.permutation;
      order = IsNonDecreasingBy-from_sort row_count _ (c.in_ok-sort_by_key.ensures.sorted row_count keys);
      first = c.truncate.ensures.items ∙ ap (λ rows. take c.args.most rows) c.reverse.ensures.items;
    }
