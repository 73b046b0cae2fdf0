-- The effect of one more change on the users.
use Rattle.std.proofs.Common.{◌≡◌, Bool, true, false, List, [], ◌∷◌, ◌++◌, cond, Option, Some, None, refl, ap, sym, ◌∙◌}
use Rattle.std.proofs.lemmas.List.Sums.{fold-append}
use Rattle.std.specs.Map.{lookup}
use Rattle.std.specs.Option.{option_map}
use Rattle.indexmap.specs.IndexMap.{insert_entry}
use Rattle.nmvs_identifier.specs.Name.{Name}
use Rattle.nmvs_identifier.specs.Texts.{same_text}
use Rattle.nmvs_directory.specs.declared.change.Change.{Change}
use Rattle.nmvs_directory.specs.declared.change.Effect.{Effect}
use Rattle.nmvs_directory.specs.declared.change.Effect.TheVariants.{Enrol, Suspend, Remove}
use Rattle.nmvs_directory.specs.declared.standing.Standing.{Standing}
use Rattle.nmvs_directory.specs.declared.standing.Standing.TheVariants.{Enrolled, Suspended, Removed}
use Rattle.nmvs_directory.specs.Known.{last_effect}
use Rattle.nmvs_directory.specs.Users.{users_of, with_change, effect_of, standing_after}
use Rattle.nmvs_directory.proofs.KnownLemmas.{last_effect-add}

-- a change has its effect on a user
effect_of-after : (was : Option Standing) (effect : Effect) → effect_of (standing_after was effect) ≡ effect
effect_of-after was (Enrol enrolment) = refl
effect_of-after was Remove = refl
effect_of-after None Suspend = refl
effect_of-after (Some (Enrolled before)) Suspend = refl
effect_of-after (Some (Suspended before)) Suspend = refl
effect_of-after (Some Removed) Suspend = refl

-- the effect of the standing that a test picks is the effect that it picks
effect_of-cond : (b : Bool) (standing : Standing) (o : Option Standing)
    → option_map effect_of (cond b (Some standing) o) ≡ cond b (Some (effect_of standing)) (option_map effect_of o)
effect_of-cond true standing o = refl
effect_of-cond false standing o = refl

-- the users after the newest change
pub users_of-add : (xs ys : List Change) (c : Change) (before after : List (Name × Standing)) → ys ≡ xs ++ c ∷ [] → before ≡ users_of xs
    → after ≡ insert_entry same_text before c.user (standing_after (lookup (same_text c.user) before) c.effect) → after ≡ users_of ys
users_of-add xs ys c before after more was now =
    now ∙ ap (λ users. with_change users c) was ∙ sym (ap users_of more ∙ fold-append with_change [] xs (c ∷ []))

-- a user's standing after the newest change agrees with it
pub standing-add : (xs ys : List Change) (c : Change) (user : Name) (was before after : Option Standing) → ys ≡ xs ++ c ∷ []
    → option_map effect_of before ≡ last_effect xs user
    → after ≡ cond (same_text c.user user) (Some (standing_after was c.effect)) before → option_map effect_of after ≡ last_effect ys user
standing-add xs ys c user was before after more known now =
    last_effect-add xs ys c user (option_map effect_of before) (option_map effect_of after) more known
    (ap (option_map effect_of) now ∙ effect_of-cond (same_text c.user user) (standing_after was c.effect) before
    ∙ ap (λ effect. cond (same_text c.user user) (Some effect) (option_map effect_of before)) (effect_of-after was c.effect))
