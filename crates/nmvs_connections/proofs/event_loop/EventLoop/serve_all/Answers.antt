use Rattle.nmvs_connections.proofs.event_loop.EventLoop.serve_all.Goals as goal

pub take_turns-requires-clause-behind : goal.take_turns-requires-clause-behind
take_turns-requires-clause-behind g c = c.note_reports.ensures.behind c.loop.invariant.1

pub loop-preserved : goal.loop-preserved
loop-preserved g c =
    let turns = c.take_turns.ensures in (
      turns.none_withheld,
      c.check_timeouts.ensures.0 c.args.pool.now.proxy turns.behind,
      c.check_timeouts.ensures.1 (turns.counted (c.note_reports.ensures.counted c.loop.invariant.2)),
    )
