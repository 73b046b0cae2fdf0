use Rattle.std.proofs.Common.{◌≡◌, ◌≤◌, ◌+◌, ◌*◌, ◌++◌, List, length, vec_len, vec_capacity}
use Rattle.nmvs_line.specs.Export.{export_text}
use Rattle.nmvs_rules.specs.declared.entry.Entry.{Entry}
use Rattle.nmvs_messages.proofs.piece.push_lines.Given as goal

-- the lines of the entries before the rest were added, and there is room for the others
abbrev pub invariant-loop-entry : goal.invariant-loop-entry
invariant-loop-entry l =
    (vec_len l.bytes + length l.rest * 1001 ≤ vec_len l.fn.bytes + length l.entries * 1001)
    × (vec_capacity l.fn.bytes ≤ vec_capacity l.bytes)
    × (before : List Entry) × (before ++ l.rest ≡ l.entries) × (l.bytes.items ≡ l.fn.bytes.items ++ export_text before)

abbrev pub decreases-loop-entry : goal.decreases-loop-entry
decreases-loop-entry l = length l.rest
