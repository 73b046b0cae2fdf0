use Rattle.std.proofs.Common.{◌≡◌, ◌≤◌, ◌++◌, length, map, take}
use Rattle.std.specs.List.{list_any, list_all}
use Rattle.nmvs_messages.specs.Fields.{is_printable, is_empty, fields_in, fields_behind, are_printable_behind, length_behind}
use Rattle.nmvs_messages.proofs.fields.fill_fields.Given as goal

abbrev pub invariant-loop-rest : goal.invariant-loop-rest
invariant-loop-rest g l = record {
  kept : take 10 (map (λ f. f.now) l.fields.items ++ fields_behind l.rest) ≡ take 10 (fields_in l.line);
  few : length l.fields.items ≤ 10;
  filled : list_any is_empty (fields_in l.line) ≡ list_any is_empty (fields_behind l.rest);
  printable : list_all is_printable l.line ≡ are_printable_behind l.rest;
}

abbrev pub decreases-loop-rest : goal.decreases-loop-rest
decreases-loop-rest g l = length_behind l.rest
