-- The lines of one side (own).
use Rattle.std.specs.Prelude.{◌≡◌, ℕ, List, ◌++◌}
use Rattle.nmvs_stream.specs.InputLines.{lines_after, rest_after, input_lines, unfinished_line}
use Rattle.nmvs_messages.specs.PendingLines.{kept_part}
use Rattle.nmvs_admin.specs.declared.incoming.Incoming.{Incoming}

-- these lines of a side were handed over, in order; its other lines, and the beginning of a line after them, are still here
pub record Waits (sent : List ℕ) (handed : List (List ℕ)) (incoming : Incoming) : Type 0 where
  -- these bytes of the next line were looked at
  pub begun : List ℕ
  pub kept : incoming.begun ≡ kept_part begun
  pub lines : input_lines sent ≡ handed ++ lines_after begun incoming.unread.items
  pub left : unfinished_line sent ≡ rest_after begun incoming.unread.items
