use Rattle.std.proofs.Common.{◌≡◌, ◌≤◌}
use Rattle.slab.specs.Slab.{slab_len}
use Rattle.nmvs_connections.specs.Turns.{OnlyCloses}
use Rattle.nmvs_connections.proofs.event_loop.EventLoop.evict.Given as goal

-- connections were closed, and none if all took no more at first
abbrev pub invariant-loop-self : goal.invariant-loop-self
invariant-loop-self g l = record {
  closes : OnlyCloses l.initial.self l.self;
  within : l.initial.self.memory ≤ l.most → l.self ≡ l.initial.self;
}

abbrev pub decreases-loop-self : goal.decreases-loop-self
decreases-loop-self g l = slab_len l.self.connections
