use Rattle.std.proofs.Common.{◌∙◌, ◌++◌, ℕ, List, take, ap}
use Rattle.std.proofs.lemmas.List.{take_min}
use Rattle.nmvs_messages.specs.PendingLines.{kept_part}
use Rattle.nmvs_admin.proofs.IncomingLemmas.{on_ok}
use Rattle.nmvs_admin.proofs.exchange.Exchange.begin.Goals as goal

pub returns-clause-unread : goal.returns-clause-unread
returns-clause-unread c =
    let line = c.as_slice-kept.result.now in
    let put = on_ok c.try_extend_from_slice.result c.unwrap.result _ c.unwrap.ensures c.try_extend_from_slice.ensures.ok in
    let ended = on_ok c.try_extend_from_slice-2.result c.unwrap-2.result _ c.unwrap-2.ensures c.try_extend_from_slice-2.ensures.ok in
    ended ∙ ap (λ (t : List ℕ). t ++ c.args.ending.now) (
    put
    ∙ ap (λ (t : List ℕ). t ++ take c.min-count.result line) c.clear.ensures
    ∙ ap (λ (n : ℕ). take n line) c.min-count.ensures
    ∙ take_min 201 line
    ∙ ap kept_part c.as_slice-kept.ensures)
