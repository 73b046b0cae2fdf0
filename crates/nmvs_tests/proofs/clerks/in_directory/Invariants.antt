use Rattle.std.proofs.Common.{length, vec_len}
use Rattle.nmvs_desk.specs.Opening.{table_of}
use Rattle.nmvs_desk.specs.Settlement.{row}
use Rattle.nmvs_tests.proofs.clerks.in_directory.Given as goal

-- the histories that were just made
abbrev pub ghosts-settled_after : goal.ghosts-settled_after
ghosts-settled_after g a = record {
  tables = λ i. table_of a.keepers i;
  shards = length a.keepers;
  clerks = vec_len a.windows.now;
  opening = row a.shards.items;
}
