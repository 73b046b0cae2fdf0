use Rattle.std.proofs.Common.{◌≡◌, drop}
use Rattle.std.specs.Prelude.{find}
use Rattle.std.specs.Str.{bytes_eq}
use Rattle.nmvs_words.proofs.row.named.Given as goal

abbrev pub invariant-loop-name : goal.invariant-loop-name
invariant-loop-name g l =
    find (λ row. bytes_eq l.word row.0.now) (drop l.name-index l.rows) ≡ find (λ row. bytes_eq l.word row.0.now) l.rows
