use Rattle.std.proofs.Common.{◌≡◌, ◌++◌, [], List, ℕ, length}
use Rattle.nmvs_stream.proofs.delivery.write_all.Given as goal

abbrev pub invariant-loop-rest : goal.invariant-loop-rest
invariant-loop-rest g l =
    (written : List ℕ) × (l.fn.text ≡ written ++ l.rest) × ((g.W.Sink.taken l.sink).bytes ≡ (g.W.Sink.taken l.fn.sink).bytes ++ written)
    × ((g.W.Sink.taken l.sink).failed ≡ (g.W.Sink.taken l.fn.sink).failed)
    × (written ≡ [] → (g.W.Sink.taken l.sink).flushed ≡ (g.W.Sink.taken l.fn.sink).flushed)

abbrev pub decreases-loop-rest : goal.decreases-loop-rest
decreases-loop-rest g l = length l.rest
