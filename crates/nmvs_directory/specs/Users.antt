-- The users that a list of changes names, and their standings (own).
use Rattle.std.specs.Prelude.{List, [], fold, Option, None, Some}
use Rattle.std.specs.Map.{lookup}
use Rattle.indexmap.specs.IndexMap.{insert_entry}
use Rattle.nmvs_identifier.specs.Name.{Name}
use Rattle.nmvs_identifier.specs.Texts.{same_text}
use Rattle.nmvs_directory.specs.declared.change.Change.{Change}
use Rattle.nmvs_directory.specs.declared.change.Effect.{Effect}
use Rattle.nmvs_directory.specs.declared.change.Effect.TheVariants.{Enrol, Suspend, Remove}
use Rattle.nmvs_directory.specs.declared.standing.Standing.{Standing}
use Rattle.nmvs_directory.specs.declared.standing.Standing.TheVariants.{Enrolled, Suspended, Removed}

-- the standing of a user after a change with this effect, by its standing before, if it was named before
abbrev pub standing_after : Option Standing → Effect → Standing
standing_after was (Enrol enrolment) = Enrolled enrolment
standing_after was Remove = Removed
standing_after None Suspend = Suspended None
standing_after (Some (Enrolled enrolment)) Suspend = Suspended (Some enrolment)
standing_after (Some (Suspended enrolment)) Suspend = Suspended enrolment
standing_after (Some Removed) Suspend = Suspended None

-- the effect of the last change on a user with this standing
abbrev pub effect_of : Standing → Effect
effect_of (Enrolled enrolment) = Enrol enrolment
effect_of (Suspended enrolment) = Suspend
effect_of Removed = Remove

-- the users after one more change: a user that was named before keeps its place, and another goes last
abbrev pub with_change : List (Name × Standing) → Change → List (Name × Standing)
with_change users change =
    insert_entry same_text users change.user (standing_after (lookup (same_text change.user) users) change.effect)

-- the users that the changes, oldest first, name: each once, in the order of their first changes, with its standing. A
-- removed user keeps its place.
abbrev pub users_of : List Change → List (Name × Standing)
users_of changes = fold with_change [] changes
