use Rattle.std.proofs.Common.{◌≡◌, ◌++◌, length, map, string_bytes}
use Rattle.nmvs_exposition.specs.Page.{samples}
use Rattle.nmvs_metrics.specs.Families.{row_of}
use Rattle.nmvs_exposition.proofs.exposition.append_samples.Given as goal

abbrev pub invariant-loop-families : goal.invariant-loop-families
invariant-loop-families l =
    string_bytes l.text ++ samples (map row_of l.families) l.values
    ≡ string_bytes l.fn.text ++ samples (map row_of l.fn.families) l.fn.values

abbrev pub decreases-loop-families : goal.decreases-loop-families
decreases-loop-families l = length l.families
