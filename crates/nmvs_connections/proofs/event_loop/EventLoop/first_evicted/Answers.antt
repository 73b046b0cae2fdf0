use Rattle.std.proofs.Common.{Option, subst}
use Rattle.nmvs_identifier.specs.Name.{Name}
use Rattle.nmvs_connections.specs.Memory.{IsHeaviest}
use Rattle.nmvs_connections.proofs.AccountSteps.{evicted_first}
use Rattle.nmvs_connections.proofs.event_loop.EventLoop.first_evicted.Goals as goal

pub returns-in-None : goal.returns-in-None
returns-in-None g c =
    evicted_first c.args.self.now.connections c.in-Some.name c.largest_of-in-None.result (subst (λ (o : Option Name). IsHeaviest c.args.self.now.connections o) c.in-Some.is c.in_ok-name.ensures) c.in-None.ensures c.largest_of-in-None.ensures
