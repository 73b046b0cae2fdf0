use Rattle.std.proofs.Common.{length, vec_len}
use Rattle.nmvs_desk.specs.Opening.{table_of}
use Rattle.nmvs_desk.specs.Settlement.{row}
use Rattle.nmvs_service.specs.LogStart.{book_of}
use Rattle.nmvs_server.proofs.launch.serve_windows.Given as goal

-- the histories that were just made
abbrev pub ghosts-open_repository-H-Histories : goal.ghosts-open_repository-H-Histories
ghosts-open_repository-H-Histories g a = record {
  tables = λ i. table_of a.opening.keepers i;
  shards = length a.opening.keepers;
  clerks = vec_len a.opening.windows;
  opening = row a.opening.shards.items;
}

-- the log that was just made, if there is one
abbrev pub ghosts-open_repository-H-LogName : goal.ghosts-open_repository-H-LogName
ghosts-open_repository-H-LogName g a = record { book = book_of a.log }
