use Rattle.std.proofs.Common.{◌≡◌, ◌∙◌, zero, List, [], ◌∷◌, None, refl, sym, ap}
use Rattle.std.specs.Prelude.{slice_get}
use Rattle.nmvs_rules.specs.declared.entry.Entry.{Entry}
use Rattle.nmvs_inspect.specs.Story.{status_of}
use Rattle.nmvs_inspect.proofs.story.status_of.Goals as goal

empty : (t : List Entry) → slice_get t zero ≡ None → t ≡ []
empty [] none = refl
empty (e ∷ t) none = absurd cc

pub returns-in-None : goal.returns-in-None
returns-in-None g c =
    let none : slice_get c.args.shard.now zero ≡ None = sym c.entry_at.ensures ∙ c.in-None.is in
    ap (λ (t : List Entry). status_of t c.args.pack.now) (sym (empty c.args.shard.now none))
