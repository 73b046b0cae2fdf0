use Rattle.nmvs_connections.proofs.event_loop.EventLoop.note_reports.Goals as goal

pub returns-then-not-note_all-clause-behind : goal.returns-then-not-note_all-clause-behind
returns-then-not-note_all-clause-behind g c = c.note_all.ensures.0 c.args.pool.now.proxy

pub returns-clause-behind : goal.returns-clause-behind
returns-clause-behind g c = λ behind.
    let proxy = c.args.pool.now.proxy in
    c.admit_all.ensures.behind (c.check_shutdown.ensures.0 proxy (c.note_all.ensures.0 proxy behind))

pub returns-clause-counted : goal.returns-clause-counted
returns-clause-counted g c = λ counted. c.admit_all.ensures.counted (c.check_shutdown.ensures.1 (c.note_all.ensures.1 counted))
