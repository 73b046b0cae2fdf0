use Rattle.std.proofs.Common.{◌≡◌, []}
use Rattle.nmvs_connections.specs.Memory.{IsCounted}
use Rattle.nmvs_connections.specs.Turns.{AllBehind}
use Rattle.nmvs_connections.proofs.event_loop.EventLoop.serve_all.Given as goal

-- between two turns nothing is withheld, all connections are behind the gateway, and their memory is counted
abbrev pub invariant-loop : goal.invariant-loop
invariant-loop g l = (l.withheld ≡ []) × AllBehind l.pool.proxy l.self.connections × IsCounted l.self
