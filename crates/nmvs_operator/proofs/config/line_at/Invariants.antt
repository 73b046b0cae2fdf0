use Rattle.std.proofs.Common.{◌≡◌, ◌+◌, ◌≤◌, take}
use Rattle.std.specs.Prelude.{count_by, ◌==◌}
use Rattle.nmvs_operator.proofs.config.line_at.Given as goal

abbrev pub invariant-loop-byte : goal.invariant-loop-byte
invariant-loop-byte l =
    (l.line ≡ count_by (λ b. b == 10) (take l.byte-index (take l.place l.text)) + 1) × (l.line ≤ l.byte-index + 1)
