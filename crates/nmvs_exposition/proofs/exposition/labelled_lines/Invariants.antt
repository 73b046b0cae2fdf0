use Rattle.std.proofs.Common.{◌≡◌, take, string_bytes}
use Rattle.std.specs.List.{flat_map}
use Rattle.nmvs_exposition.specs.Page.{labelled_line}
use Rattle.nmvs_metrics.specs.Families.{row_of}
use Rattle.nmvs_exposition.proofs.exposition.labelled_lines.Given as goal

abbrev pub invariant-loop-sample : goal.invariant-loop-sample
invariant-loop-sample l = string_bytes l.text ≡ flat_map (labelled_line (row_of l.family)) (take l.sample-index l.samples)
