use Rattle.std.proofs.Common.{◌≡◌, refl}
use Rattle.nmvs_connections.proofs.MemorySteps.{counted_set}
use Rattle.nmvs_connections.proofs.TurnSteps.{each_set}
use Rattle.nmvs_connections.proofs.event_loop.EventLoop.queue_later.Goals as goal

pub returns-in-Some : goal.returns-in-Some
returns-in-Some g c =
    let connections = c.args.self.now.connections in
    let was = c.in-Some.ensures.value in record {
      closes = (refl, each_set (λ other a b. b ≡ a) connections c.args.key c.in-Some.connection.now _ was refl (λ other a apart. refl), counted_set connections c.args.key c.in-Some.connection.now _ c.args.self.now.memory was refl);
    }
