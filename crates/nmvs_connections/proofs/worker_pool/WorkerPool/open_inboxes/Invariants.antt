use Rattle.std.proofs.Common.{◌≡◌}
use Rattle.nmvs_connections.proofs.worker_pool.WorkerPool.open_inboxes.Given as goal

-- the bounds stay
abbrev pub invariant-loop : goal.invariant-loop
invariant-loop g l = (l.self-inside.bounds.proxy ≡ l.fn.self.proxy) × (l.self-inside.memory ≡ l.fn.self.memory)
