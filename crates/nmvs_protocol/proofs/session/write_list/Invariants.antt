use Rattle.std.proofs.Common.{◌≡◌, ◌++◌, ℕ, List, length}
use Rattle.nmvs_stream.specs.Delivery.{Writes}
use Rattle.nmvs_protocol.proofs.session.write_list.Given as goal

-- the lines before those that are left were written
abbrev pub invariant-loop-list : goal.invariant-loop-list
invariant-loop-list g l =
    (before : List ℕ) × (before ++ g.D.List.LineList.left l.list ≡ g.D.List.LineList.left l.fn.list)
    × Writes (g.W.Sink.taken l.fn.sink) (g.W.Sink.taken l.sink) before

abbrev pub decreases-loop-list : goal.decreases-loop-list
decreases-loop-list g l = length (g.D.List.LineList.left l.list)
