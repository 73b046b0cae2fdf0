use Rattle.std.proofs.Common.{◌≡◌, ◌∙◌, []}
use Rattle.nmvs_connections.proofs.MemorySteps.{largest_first, largest_last, largest_new, largest_still}
use Rattle.nmvs_connections.proofs.event_loop.EventLoop.largest.Goals as goal

pub loop-key-init : goal.loop-key-init
loop-key-init g c =
    let left = c.into_iter-key-iterator.ensures.into_iter_gives ∙ c.iter-key-items.ensures.rest in
    (tt, tt, rw left (largest_first c.args.self.now.connections))

pub loop-key-preserved-then-connection-most : goal.loop-key-preserved-then-connection-most
loop-key-preserved-then-connection-most g c =
    let at = c.in-Some.ensures.steps in
    (tt, tt, largest_new _ _ _ _ _ _ (rw at at (c.loop-key.invariant.2)) c.if-connection-most.true)

pub loop-key-preserved : goal.loop-key-preserved
loop-key-preserved g c =
    let at = c.in-Some.ensures.steps in
    (tt, tt, largest_still _ _ _ _ _ _ (rw at at (c.loop-key.invariant.2)) c.if-connection-most.false)

pub returns : goal.returns
returns g c =
    let none : c.loop-key.key-iterator ≡ [] = c.in-None.ensures.steps.0 in
    largest_last _ _ _ (rw none at (c.loop-key.invariant.2))
