use Rattle.nmvs_directory.specs.Directory.{directory_book}
use Rattle.nmvs_tests.proofs.users.windows_show_what_was_published.Given as goal

-- the directory that was just made
abbrev pub ghosts-changes_are_shown : goal.ghosts-changes_are_shown
ghosts-changes_are_shown g a = record { book = directory_book a.directory }
