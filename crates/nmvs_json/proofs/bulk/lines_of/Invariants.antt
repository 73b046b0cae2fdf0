use Rattle.std.proofs.Common.{◌≡◌, ◌+◌, ◌++◌, Ok, map, length, string_bytes}
use Rattle.json.specs.Value.{value_view}
use Rattle.nmvs_json.specs.Bulks.{item_lines, item_subject, line_and}
use Rattle.nmvs_json.proofs.bulk.lines_of.Given as goal

abbrev pub invariant-loop-rest : goal.invariant-loop-rest
invariant-loop-rest l =
    (line_and (Ok (string_bytes l.lines)) (item_lines l.number (map (λ v. value_view v) l.rest)) ≡ item_lines 0 (map (λ v. value_view v) l.items))
    × (l.subjects ++ map item_subject (map (λ v. value_view v) l.rest) ≡ map item_subject (map (λ v. value_view v) l.items))
    × (l.number + length l.rest ≡ length l.items)

abbrev pub decreases-loop-rest : goal.decreases-loop-rest
decreases-loop-rest l = length l.rest
