-- The users and their states, as lines and as numbers for the operator (own).
use Rattle.std.specs.Prelude.{ℕ, ◌+◌, cond, List, [], ◌∷◌, Bool, true, false, codes, decimal, map, Option, None, Some}
use Rattle.std.specs.List.{flat_map}
use Rattle.nmvs_identifier.specs.Name.{Name}
use Rattle.nmvs_messages.specs.Commands.{enrolment_words}
use Rattle.nmvs_rules.specs.Enrolments.{same_enrolment}
use Rattle.nmvs_rules.specs.declared.enrolment.Enrolment.{Enrolment}
use Rattle.nmvs_words.specs.Words.{spaced}
use Rattle.nmvs_directory.specs.Users.{users_of}
use Rattle.nmvs_directory.specs.declared.change.Change.{Change}
use Rattle.nmvs_directory.specs.declared.standing.Standing.{Standing}
use Rattle.nmvs_directory.specs.declared.standing.Standing.TheVariants.{Enrolled, Suspended, Removed}

-- the line of a user, with LF: a user who was never enrolled has no role, and a user who was removed has no line
abbrev pub user_line : Name × Standing → List ℕ
user_line (name, Enrolled enrolment) = spaced (codes "USER" ∷ name.bytes ∷ enrolment_words enrolment ∷ [])
user_line (name, Suspended (Some enrolment)) = spaced (codes "USER" ∷ name.bytes ∷ enrolment_words enrolment ∷ codes "SUSPENDED" ∷ [])
user_line (name, Suspended None) = spaced (codes "USER" ∷ name.bytes ∷ codes "SUSPENDED" ∷ [])
user_line (name, Removed) = []

-- the lines of users, in their order
abbrev pub user_lines : List (Name × Standing) → List ℕ
user_lines users = flat_map user_line users

-- whether a user of this state is enrolled
abbrev pub stands_enrolled : Standing → Bool
stands_enrolled (Enrolled enrolment) = true
stands_enrolled (Suspended enrolment) = false
stands_enrolled Removed = false

-- whether a user of this state is suspended
abbrev pub stands_suspended : Standing → Bool
stands_suspended (Enrolled enrolment) = false
stands_suspended (Suspended enrolment) = true
stands_suspended Removed = false

-- whether a user is enrolled
abbrev pub is_enrolled : Name × Standing → Bool
is_enrolled (name, standing) = stands_enrolled standing

-- whether a user is suspended
abbrev pub is_suspended : Name × Standing → Bool
is_suspended (name, standing) = stands_suspended standing

-- whether two users were enrolled alike last, or neither was
abbrev pub same_last : Option Enrolment → Option Enrolment → Bool
same_last (Some a) (Some b) = same_enrolment a b
same_last None None = true
same_last _ _ = false

-- whether two states are the same
abbrev pub same_standing : Standing → Standing → Bool
same_standing (Enrolled a) (Enrolled b) = same_enrolment a b
same_standing (Suspended a) (Suspended b) = same_last a b
same_standing Removed Removed = true
same_standing _ _ = false

-- 1 if a user of the first state has the second one now, and they differ
abbrev pub one_changed : Standing → Standing → ℕ
one_changed before now = cond (same_standing before now) 0 1

-- how many of these users have another state than before; before, a user whom nobody had named was as if removed
abbrev pub changed_from : List Standing → List (Name × Standing) → ℕ
changed_from states [] = 0
changed_from [] (user ∷ users) = one_changed Removed user.1 + changed_from [] users
changed_from (state ∷ states) (user ∷ users) = one_changed state user.1 + changed_from states users

-- how many users have another state after the second list of changes than after the first, with which it begins
abbrev pub changed_users : List Change → List Change → ℕ
changed_users old new = changed_from (map (λ user. user.1) (users_of old)) (users_of new)

-- the line about the number of users who were changed
abbrev pub changed_line : ℕ → List ℕ
changed_line n = spaced (codes "CHANGED" ∷ decimal n ∷ [])
