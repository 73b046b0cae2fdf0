use Rattle.std.proofs.Common.{◌≡◌, ◌+◌, drop, map}
use Rattle.std.specs.Prelude.{find}
use Rattle.std.specs.Str.{bytes_eq}
use Rattle.nmvs_json.proofs.asked_kind.in_small_letters.Given as goal

abbrev pub invariant-loop-word : goal.invariant-loop-word
invariant-loop-word g l =
    find (λ row. bytes_eq l.name (map (λ b. b + 32) row.0.now)) (drop l.word-index l.rows)
    ≡ find (λ row. bytes_eq l.name (map (λ b. b + 32) row.0.now)) l.rows
