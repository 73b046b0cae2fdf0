-- The two parts of a directory's one list of changes.
use Rattle.std.specs.Prelude.{List}
use Rattle.left_right.specs.Handles
use Rattle.left_right.specs.declared.Absorb
use Rattle.nmvs_directory.specs.Changes.{pending_changes}
use Rattle.nmvs_directory.specs.declared.change.Change.{Change}
use Rattle.nmvs_directory.specs.declared.history.History.{History}
use Rattle.nmvs_directory.specs.declared.naming.Naming.{Ghosts}
use Rattle.nmvs_directory.specs.declared.registrar.Registrar.{Registrar}
use Rattle.nmvs_directory.specs.declared.users.Users.{Users}

-- the changes that windows can see, and those that the next publication adds (own)
pub record Register : Type 0 where
  pub published : List Change
  pub pending : List Change

module _ {J R A : Type 0} {g : Ghosts J} {a : Absorb.Ghosts (Users J A) (History J) (List Change)} where
  -- the changes that windows can see (own)
  abbrev pub published : Registrar J R A g a → List Change
  published r = Handles.published r.writer

  -- the changes that the next publication adds (own)
  abbrev pub pending : Registrar J R A g a → List Change
  pending r = pending_changes r.changes

  -- both (own)
  abbrev pub register_of : Registrar J R A g a → Register
  register_of r = record { published = published r; pending = pending r }
