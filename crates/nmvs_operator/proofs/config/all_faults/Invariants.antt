use Rattle.std.proofs.Common.{◌≡◌, ◌++◌, map, string_bytes}
use Rattle.toml.specs.View.{members_view, table_view}
use Rattle.nmvs_operator.specs.Config.{all_faults}
use Rattle.nmvs_operator.proofs.config.all_faults.Given as goal

abbrev pub invariant-loop-key : goal.invariant-loop-key
invariant-loop-key l =
    all_faults l.rows (table_view l.table)
    ≡ map (λ f. (string_bytes f.0, f.1)) l.faults.items ++ all_faults l.rows (members_view l.key-iterator)
