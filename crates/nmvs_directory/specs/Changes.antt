-- The pending changes of a directory.
use Rattle.std.specs.Prelude.{◌≡◌, ◌≤◌, List, take, vec_len, vec_capacity}
use Rattle.nmvs_directory.specs.declared.change.Change.{Change}
use Rattle.nmvs_directory.specs.declared.changes.Changes.{Changes}

module _ {A : Type 0} where
  -- the changes that are not published yet, oldest first (own)
  abbrev pub pending_changes : Changes A → List Change
  pending_changes c = c.pending.items

  -- those of them that were handed to a publication, which was refused (own)
  abbrev pub entered_changes : Changes A → List Change
  entered_changes c = take c.entered c.pending.items

  -- no publication was handed a change (own)
  abbrev pub KeepsEntered : Changes A → Changes A → Type 0
  KeepsEntered before after = entered_changes after ≡ entered_changes before

  -- there is no room for one more change (own)
  abbrev pub IsFull : Changes A → Type 0
  IsFull c = vec_capacity c.pending ≤ vec_len c.pending
