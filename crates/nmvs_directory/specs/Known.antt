-- The state of a user after a list of changes.
use Rattle.std.specs.Prelude.{List, reverse, Option, None, Some}
use Rattle.std.specs.List.{find}
use Rattle.std.specs.Option.{option_map}
use Rattle.nmvs_identifier.specs.Name.{Name}
use Rattle.nmvs_identifier.specs.Texts.{same_text}
use Rattle.nmvs_directory.specs.declared.change.Change.{Change}
use Rattle.nmvs_directory.specs.declared.change.Effect.{Effect}
use Rattle.nmvs_directory.specs.declared.change.Effect.TheVariants.{Enrol, Suspend, Remove}
use Rattle.nmvs_directory.specs.declared.look.Look.{Look}
use Rattle.nmvs_directory.specs.declared.look.Look.TheVariants.{Nobody, Suspended, Known}

-- the last change that names the user, if one does (own)
abbrev pub last_change : List Change → Name → Option Change
last_change changes user = find (λ change. same_text change.user user) (reverse changes)

-- the effect of that change on the user (own)
abbrev pub last_effect : List Change → Name → Option Effect
last_effect changes user = option_map (λ change. change.effect) (last_change changes user)

-- the answer by that change; without one the user is nobody (own)
abbrev pub answer : Option Effect → Look
answer None = Nobody
answer (Some Remove) = Nobody
answer (Some Suspend) = Suspended
answer (Some (Enrol enrolment)) = Known enrolment

-- the answer about a user after these changes, oldest first: the last one that names the user decides (own)
abbrev pub known : List Change → Name → Look
known changes user = answer (last_effect changes user)
