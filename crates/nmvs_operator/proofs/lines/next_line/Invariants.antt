use Rattle.std.proofs.Common.{◌≡◌, ◌+◌, ◌++◌, ◌≤◌, ℕ, List, length}
use Rattle.nmvs_stream.specs.InputLines.{HasNoLf}
use Rattle.nmvs_messages.specs.PendingLines.{kept_part}
use Rattle.nmvs_operator.proofs.lines.next_line.Given as goal

abbrev pub invariant-loop : goal.invariant-loop
invariant-loop g l =
    let told = g.I.Source.told in
    (x : List ℕ) × HasNoLf x × ((told l.source).bytes ≡ (told l.fn.source).bytes ++ x) × (l.line ≡ kept_part x)
    × ((told l.source).reads ≡ (told l.fn.source).reads + l.counter) × (l.counter ≤ 18446744073709551615) × (length l.byte ≡ 1)
