use Rattle.std.proofs.Common.{◌≡◌, ◌+◌, ◌≤◌, ◌++◌, ℕ, List, length}
use Rattle.nmvs_stream.specs.Sink.{Taken}
use Rattle.nmvs_stream.specs.InputLines.{input_lines, unfinished_line}
use Rattle.nmvs_messages.specs.PendingLines.{kept_part}
use Rattle.nmvs_check.specs.Scans.{Answered}
use Rattle.nmvs_check.proofs.ScanLemmas.{Ahead}
use Rattle.nmvs_check.proofs.scans.take_chunk.Given as goal

abbrev pub invariant-loop-tail : goal.invariant-loop-tail
invariant-loop-tail l =
    (l.rows.count + length l.rest ≤ l.fn.rows.count + length l.chunk)
    × ((start sink : Taken) (input : List ℕ) → l.fn.line ≡ kept_part (unfinished_line input) → Answered l.nation start sink l.fn.rows (input_lines input)
    → Ahead l.nation start sink l.rows l.line l.rest (input ++ l.chunk))

abbrev pub decreases-loop-tail : goal.decreases-loop-tail
decreases-loop-tail l = length l.rest
