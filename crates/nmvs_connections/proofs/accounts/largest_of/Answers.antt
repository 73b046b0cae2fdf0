use Rattle.std.proofs.Common.{◌≡◌, ◌∙◌, [], sym}
use Rattle.nmvs_connections.proofs.AccountSteps.{largest_of_first, largest_of_last, largest_of_new, largest_of_still}
use Rattle.nmvs_connections.proofs.accounts.largest_of.Goals.{else-connection-most-via-then-connection-most+else-is_counted, else-connection-most-via-else-connection-most}
use Rattle.nmvs_connections.proofs.accounts.largest_of.Goals as goal

pub loop-key-init : goal.loop-key-init
loop-key-init g c =
    let left = c.into_iter-key-iterator.ensures.into_iter_gives ∙ c.iter-key-items.ensures.rest in
    (tt, tt, rw left (largest_of_first c.args.connections.now c.args.name.now c.args.unfinished))

pub loop-key-preserved-then-is_counted : goal.loop-key-preserved-then-is_counted
loop-key-preserved-then-is_counted g c =
    let at = c.in-Some.ensures.steps in
    (tt, tt, largest_of_new _ _ _ _ _ _ _ _ (rw at at (c.loop-key.invariant.2)) c.if-connection-most.true (sym c.if-is_counted.ensures))

pub loop-key-preserved : goal.loop-key-preserved
loop-key-preserved g c =
    let at = c.in-Some.ensures.steps in
    elim c.else-connection-most.branch [
      | else-connection-most-via-then-connection-most+else-is_counted w ↦ (tt, tt, largest_of_still _ _ _ _ _ _ _ _ (rw at at (c.loop-key.invariant.2)) (λ counted. absurd (cc (counted, w.if-is_counted.ensures))))
      | else-connection-most-via-else-connection-most w ↦ (tt, tt, largest_of_still _ _ _ _ _ _ _ _ (rw at at (c.loop-key.invariant.2)) (λ _. w.if-connection-most.false))
    ]

pub returns : goal.returns
returns g c =
    let none : c.loop-key.key-iterator ≡ [] = c.in-None.ensures.steps.0 in
    largest_of_last _ _ _ _ _ (rw none at (c.loop-key.invariant.2))
