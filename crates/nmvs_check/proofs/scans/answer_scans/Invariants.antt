use Rattle.std.proofs.Common.{◌≡◌, ◌+◌, ◌*◌, ◌≤◌, ◌++◌, ℕ, List, length, false}
use Rattle.nmvs_stream.specs.InputLines.{input_lines, unfinished_line}
use Rattle.nmvs_messages.specs.PendingLines.{kept_part}
use Rattle.nmvs_check.specs.Scans.{Answered}
use Rattle.nmvs_check.proofs.scans.answer_scans.Given as goal

abbrev pub invariant-loop : goal.invariant-loop
invariant-loop g l =
    let told = g.R.Source.told in
    let taken = g.W.Sink.taken in
    (length l.buffer ≡ 4096)
    × (l.rows.count ≤ 4096 * l.counter)
    × (l.counter ≤ l.reads)
    × ((told l.source).reads ≡ (told l.fn.source).reads + l.counter)
    × ((told l.source).ended ≡ false)
    × (input : List ℕ) × ((told l.source).bytes ≡ (told l.fn.source).bytes ++ input)
    × (l.line ≡ kept_part (unfinished_line input))
    × Answered l.nation (taken l.fn.sink) (taken l.sink) l.rows (input_lines input)
