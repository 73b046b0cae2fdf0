use Rattle.std.proofs.Common.{◌≡◌, ◌++◌, length, string_bytes}
use Rattle.nmvs_exposition.specs.Page.{bucket_lines, bucket_count}
use Rattle.nmvs_exposition.proofs.exposition.bucket_lines.Given as goal

-- the lines of the buckets so far, and then of the rest, are the lines of all; and so it is with their count
abbrev pub invariant-loop-rest : goal.invariant-loop-rest
invariant-loop-rest l =
    (string_bytes l.text ++ bucket_lines l.name l.count l.rest ≡ bucket_lines l.name 0 l.fn.buckets)
    × (bucket_count l.count l.rest ≡ bucket_count 0 l.fn.buckets)

abbrev pub decreases-loop-rest : goal.decreases-loop-rest
decreases-loop-rest l = length l.rest
