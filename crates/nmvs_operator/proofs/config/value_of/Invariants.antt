use Rattle.std.proofs.Common.{◌≡◌, drop}
use Rattle.std.specs.Prelude.{find}
use Rattle.std.specs.Str.{bytes_eq}
use Rattle.nmvs_operator.proofs.config.value_of.Given as goal

abbrev pub invariant-loop-row : goal.invariant-loop-row
invariant-loop-row l =
    find (λ row. bytes_eq l.name row.name.now) (drop l.row-index l.rows) ≡ find (λ row. bytes_eq l.name row.name.now) l.rows
