use Rattle.nmvs_connections.proofs.event_loop.serve.Goals as goal

pub serve_all-requires-clause-behind : goal.serve_all-requires-clause-behind
serve_all-requires-clause-behind g c = c.new-event_loop.ensures.behind c.args.pool.now.proxy
