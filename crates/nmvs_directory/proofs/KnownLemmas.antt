-- The effect of one more change on a user.
use Rattle.std.proofs.Common.{◌≡◌, Bool, true, false, List, [], ◌∷◌, ◌++◌, cond, Option, Some, refl, ap, sym, ◌∙◌}
use Rattle.std.proofs.lemmas.List.{reverse-append}
use Rattle.std.specs.List.{find}
use Rattle.std.specs.Option.{option_map}
use Rattle.nmvs_identifier.specs.Name.{Name}
use Rattle.nmvs_identifier.specs.Texts.{same_text}
use Rattle.nmvs_directory.specs.declared.change.Change.{Change}
use Rattle.nmvs_directory.specs.declared.change.Effect.{Effect}
use Rattle.nmvs_directory.specs.Known.{last_change, last_effect}

-- the effect of the change that a test picks is the effect that it picks
found : (b : Bool) (c : Change) (o : Option Change) → option_map (λ change. change.effect) (cond b (Some c) o) ≡ cond b (Some c.effect) (option_map (λ change. change.effect) o)
found true c o = refl
found false c o = refl

-- the newest change is found first
last_change-add : (xs : List Change) (c : Change) (user : Name) → last_change (xs ++ c ∷ []) user ≡ cond (same_text c.user user) (Some c) (last_change xs user)
last_change-add xs c user = ap (find (λ change. same_text change.user user)) (reverse-append xs (c ∷ []))

-- the newest change decides if it names the user; else the changes before it do
pub last_effect-add : (xs ys : List Change) (c : Change) (user : Name) (before after : Option Effect) → ys ≡ xs ++ c ∷ []
    → before ≡ last_effect xs user → after ≡ cond (same_text c.user user) (Some c.effect) before → after ≡ last_effect ys user
last_effect-add xs ys c user before after more was now =
    now ∙ (ap (cond (same_text c.user user) (Some c.effect)) was
    ∙ (sym (found (same_text c.user user) c (last_change xs user))
    ∙ (ap (option_map (λ change. change.effect)) (sym (last_change-add xs c user))
    ∙ ap (λ zs. last_effect zs user) (sym more))))
