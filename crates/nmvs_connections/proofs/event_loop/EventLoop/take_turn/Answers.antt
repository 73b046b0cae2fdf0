use Rattle.nmvs_connections.proofs.MemorySteps.{counted_set}
use Rattle.nmvs_connections.proofs.TurnSteps.{turn_of_none, turn_of_one}
use Rattle.nmvs_connections.proofs.event_loop.EventLoop.take_turn.Goals as goal

pub returns-in_default-clause-turn : goal.returns-in_default-clause-turn
returns-in_default-clause-turn g c = turn_of_none g.D.Desk.takes c.args.key c.args.desk.now c.args.withheld.now c.args.self.now.awaiting.items c.args.self.now.connections c.in_default.ensures.value

pub returns-clause-counted : goal.returns-clause-counted
returns-clause-counted g c = λ counted.
    let next = c.take_turn-next in
    c.dispatch.ensures.counted (counted_set c.args.self.now.connections c.args.key c.in-Some.connection.now next.new.self c.args.self.now.memory c.in-Some.ensures.value next.ensures.memory counted)

pub returns-clause-turn : goal.returns-clause-turn
returns-clause-turn g c =
    let next = c.take_turn-next in
    let done = c.dispatch in
    turn_of_one g.D.Desk.takes c.args.key c.args.desk.now next.new.desk c.args.withheld.now next.new.withheld c.args.self.now.awaiting.items done.new.self.awaiting.items next.result
    c.args.self.now.connections done.new.self.connections c.in-Some.connection.now next.new.self c.in-Some.ensures.value next.ensures.steps c.note_bytes.ensures done.ensures.connections done.ensures.still done.ensures.asks
