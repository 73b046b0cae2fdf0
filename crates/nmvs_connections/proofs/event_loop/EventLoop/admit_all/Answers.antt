use Rattle.nmvs_connections.proofs.event_loop.EventLoop.admit_all.Goals as goal

pub loop-preserved : goal.loop-preserved
loop-preserved g c = (λ behind. c.admit.ensures.behind (c.loop.invariant.0 behind), λ counted. c.admit.ensures.counted (c.loop.invariant.1 counted))
