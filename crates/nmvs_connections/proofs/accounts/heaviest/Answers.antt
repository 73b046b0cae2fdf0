use Rattle.std.proofs.Common.{◌≡◌, ◌∙◌, [], refl}
use Rattle.nmvs_connections.proofs.AccountSteps.{counted_first, counted_new_by, counted_still_by, heaviest_last}
use Rattle.nmvs_connections.proofs.accounts.heaviest.Goals as goal

pub loop-key-init : goal.loop-key-init
loop-key-init g c =
    let left = c.into_iter-key-iterator.ensures.into_iter_gives ∙ c.iter-key-items.ensures.rest in
    (tt, tt, rw left (counted_first c.args.connections.now c.new-counts.result (λ name. rw c.new-counts.ensures.empty refl)))

pub loop-key-preserved-then-count-most : goal.loop-key-preserved-then-count-most
loop-key-preserved-then-count-most g c =
    let at = c.in-Some.ensures.steps in
    (tt, tt, counted_new_by _ _ _ _ _ _ _ _ _ _ c.account-name.ensures c.in_ok-count.ensures.count c.in_ok-count.ensures.own c.in_ok-count.ensures.others c.if-count-most.true (rw at at (c.loop-key.invariant.2)))

pub loop-key-preserved : goal.loop-key-preserved
loop-key-preserved g c =
    let at = c.in-Some.ensures.steps in
    (tt, tt, counted_still_by _ _ _ _ _ _ _ _ _ _ c.account-name.ensures c.in_ok-count.ensures.count c.in_ok-count.ensures.own c.in_ok-count.ensures.others c.if-count-most.false (rw at at (c.loop-key.invariant.2)))

pub returns : goal.returns
returns g c =
    let none : c.loop-key._key-iterator ≡ [] = c.in-None.ensures.steps.0 in
    heaviest_last _ _ _ _ (rw none at (c.loop-key.invariant.2))
