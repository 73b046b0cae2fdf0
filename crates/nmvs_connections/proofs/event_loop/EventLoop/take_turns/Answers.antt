use Rattle.std.proofs.Common.{[], refl}
use Rattle.nmvs_connections.proofs.TurnSteps.{open_first, open_last, open_taken, open_told}
use Rattle.nmvs_connections.proofs.event_loop.EventLoop.take_turns.Goals as goal

pub loop-index-init : goal.loop-index-init
loop-index-init g c = (
  open_first c.args.pool.now.proxy g.D.Desk.takes g.D.Desk.releases g.D.Desk.moves c.args.desk.now c.args.withheld.now c.args.self.now.awaiting.items c.args.self.now.connections c.requires.none_withheld c.requires.behind,
  λ counted. counted,
)

pub loop-index-preserved-then-not-take_turn : goal.loop-index-preserved-then-not-take_turn
loop-index-preserved-then-not-take_turn g c =
    let at = c.loop-index in
    let t = c.take_turn.new in (
      open_taken c.args.pool.now.proxy g.D.Desk.takes g.D.Desk.releases g.D.Desk.moves c.in-Some.key c.args.desk.now at.desk t.desk at.withheld t.withheld at.self.awaiting.items t.self.awaiting.items c.args.self.now.connections at.self.connections t.self.connections
          at.invariant.0 c.take_turn.ensures.turn,
      λ counted. c.take_turn.ensures.counted (at.invariant.1 counted),
    )

pub loop-index-preserved : goal.loop-index-preserved
loop-index-preserved g c =
    let at = c.loop-index in
    let t = c.take_turn.new in
    let told = c.tell_all.new in
    let taken =
    open_taken c.args.pool.now.proxy g.D.Desk.takes g.D.Desk.releases g.D.Desk.moves c.in-Some.key c.args.desk.now at.desk t.desk at.withheld t.withheld at.self.awaiting.items t.self.awaiting.items c.args.self.now.connections at.self.connections t.self.connections
    at.invariant.0 c.take_turn.ensures.turn in
    let e = c.tell_all.ensures in (
      open_told c.args.pool.now.proxy g.D.Desk.takes g.D.Desk.releases g.D.Desk.moves c.args.desk.now t.desk told.desk t.withheld told.withheld t.self.awaiting.items told.self.awaiting.items c.args.self.now.connections t.self.connections told.self.connections
          taken e.tells e.none_withheld e.none_asks,
      λ counted. e.counted (c.take_turn.ensures.counted (at.invariant.1 counted)),
    )

pub returns-clause-behind : goal.returns-clause-behind
returns-clause-behind g c =
    let at = c.loop-index in
    let told = c.tell_all-2.new in
    (open_told c.args.pool.now.proxy g.D.Desk.takes g.D.Desk.releases g.D.Desk.moves c.args.desk.now at.desk told.desk at.withheld [] at.self.awaiting.items [] c.args.self.now.connections at.self.connections told.self.connections
    at.invariant.0 c.tell_all-2.ensures.tells refl refl).behind

pub returns-clause-counted : goal.returns-clause-counted
returns-clause-counted g c = λ counted. c.tell_all-2.ensures.counted (c.loop-index.invariant.1 counted)

pub returns-clause-turn : goal.returns-clause-turn
returns-clause-turn g c =
    let at = c.loop-index in
    let told = c.tell_all-2.new in
    open_last c.args.pool.now.proxy g.D.Desk.takes g.D.Desk.releases g.D.Desk.moves c.args.desk.now told.desk c.args.self.now.connections told.self.connections
    (open_told c.args.pool.now.proxy g.D.Desk.takes g.D.Desk.releases g.D.Desk.moves c.args.desk.now at.desk told.desk at.withheld [] at.self.awaiting.items [] c.args.self.now.connections at.self.connections told.self.connections
    at.invariant.0 c.tell_all-2.ensures.tells refl refl)
