use Rattle.std.proofs.Common.{◌≡◌, ◌++◌, take, codes, string_bytes}
use Rattle.std.specs.List.{flat_map}
use Rattle.nmvs_operator.proofs.order.rows_text.Given as goal

abbrev pub invariant-loop-word : goal.invariant-loop-word
invariant-loop-word l = string_bytes l.text ≡ flat_map (λ row. row.0.now ++ (row.1.now ++ codes "\n")) (take l.word-index l.rows)
