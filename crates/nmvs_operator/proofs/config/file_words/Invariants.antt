use Rattle.std.proofs.Common.{◌≡◌, ◌++◌, map, string_bytes}
use Rattle.toml.specs.View.{members_view, table_view}
use Rattle.nmvs_operator.specs.Config.{file_words}
use Rattle.nmvs_operator.proofs.config.file_words.Given as goal

abbrev pub invariant-loop-key : goal.invariant-loop-key
invariant-loop-key l =
    file_words (map string_bytes l.line) (table_view l.table)
    ≡ map string_bytes l.words.items ++ file_words (map string_bytes l.line) (members_view l.key-iterator)
