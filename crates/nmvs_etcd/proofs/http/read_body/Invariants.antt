use Rattle.std.proofs.Common.{◌≡◌, ◌≤◌, ◌++◌, ℕ, List, length}
use Rattle.http1.specs.declared.conn.Reading.TheVariants as Reads
use Rattle.http1.specs.declared.decode.Decoder.{Decoder}
use Rattle.nmvs_etcd.proofs.Hearing.{IsReadUpTo}
use Rattle.nmvs_etcd.proofs.http.read_body.Given as goal

abbrev pub invariant-loop : goal.invariant-loop
invariant-loop g l =
    (g.C.Connection.sent l.connection ≡ g.C.Connection.sent l.fn.connection)
    × ((piece : List ℕ) × (g.C.Connection.heard l.connection ≡ g.C.Connection.heard l.fn.connection ++ piece) × (l.heard.items ≡ l.fn.heard.items ++ piece))
    × (l.at ≤ length l.heard.items)
    × (l.end ≤ length l.heard.items)
    × ((start : Decoder) → l.fn.client.reading ≡ Reads.Body start
    → (now : Decoder) × (l.client.reading ≡ Reads.Body now) × IsReadUpTo start now l.end l.at l.heard.items l.body.items)
