use Rattle.std.proofs.Common.{◌≡◌, ◌++◌}
use Rattle.nmvs_etcd.proofs.http.read_head.Given as goal

abbrev pub invariant-loop : goal.invariant-loop
invariant-loop g l =
    (l.client ≡ l.fn.client)
    × (g.C.Connection.sent l.connection ≡ g.C.Connection.sent l.fn.connection)
    × (g.C.Connection.heard l.connection ≡ g.C.Connection.heard l.fn.connection ++ l.heard.items)
