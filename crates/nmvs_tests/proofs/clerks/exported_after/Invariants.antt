use Rattle.nmvs_tests.proofs.clerks.exported_after.Given as goal

-- the directory that was just made
abbrev pub ghosts-in_directory : goal.ghosts-in_directory
ghosts-in_directory g a = record { book = a.directory.opened.seen.book }
