-- The answers that a release makes of withheld ones.
use Rattle.std.proofs.Common.{◌≡◌, not, ◌||◌, if◌then◌else◌, ℕ, Bool, true, false, List, [], ◌∷◌, Option, map, refl, inl, inr}
use Rattle.nmvs_messages.specs.declared.answer.Answer.{Answer}
use Rattle.nmvs_messages.specs.declared.answer.Turn.TheVariants as turns
use Rattle.nmvs_messages.specs.declared.withheld.Withheld.{Withheld}
use Rattle.nmvs_messages.specs.Withheld.{AreReleased, StaysOrTurns, is_kept, speaks_of_trail, told_where, turned}

-- withheld answers are released by a function of each
pub released_by : (f : Withheld → Answer) → ((w : Withheld) → StaysOrTurns w (f w)) → (withheld : List Withheld) → AreReleased (λ w a. a ≡ f w) withheld (map f withheld)
released_by f stays [] = tt
released_by f stays (w ∷ withheld) = (refl, stays w, released_by f stays withheld)

-- the kept entries decide whether a line is turned away, if it may be
pub told_stays : (kept : Option (List ℕ)) (w : Withheld) → StaysOrTurns w (told_where kept w)
told_stays kept w = choose (is_kept kept w.basis) (speaks_of_trail w) refl
  where
    choose : (k r : Bool) → speaks_of_trail w ≡ r → StaysOrTurns w (if k || not r then w.answer else turned turns.Journal w.answer)
    choose true r e = inl refl
    choose false false e = inl refl
    choose false true e = inr (e, turns.Journal, refl)
