use Rattle.std.proofs.Common.{◌≡◌, refl}
use Rattle.nmvs_connections.proofs.MemorySteps.{counted_anew}
use Rattle.nmvs_connections.proofs.TurnSteps.{each_set}
use Rattle.nmvs_connections.proofs.event_loop.EventLoop.count_memory.Goals as goal

pub returns-in-Some-clause-closes : goal.returns-in-Some-clause-closes
returns-in-Some-clause-closes g c =
    let connections = c.args.self.now.connections in
    let was = c.in-Some.ensures.value in
    let connection = c.in-Some.connection.now in
    let counted = c.count_memory-self in (
      refl,
      each_set (λ other a b. b ≡ a) connections c.args.key connection counted.new.self was counted.ensures.session (λ other a apart. refl),
      counted_anew connections c.args.key connection counted.new.self c.args.self.now.memory counted.result was counted.ensures.all.0,
    )
