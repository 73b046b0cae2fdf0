-- Directories as clauses see them.
use Rattle.logbook.specs.Pages.{Book}
use Rattle.nmvs_directory.specs.declared.directory.Directory.{Directory}

-- the list of changes of a directory; its name has to name the same list (own)
abbrev pub directory_book : Directory → Book
directory_book d = d.opened.seen.book
