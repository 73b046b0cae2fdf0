-- What lines made of a case stays.
use Rattle.std.proofs.Common.{[], ◌∷◌, refl}
use Rattle.nmvs_cases.specs.Cases.{on}
use Rattle.nmvs_cases.specs.Laws.{CasesStay}

pub stay : CasesStay
stay c n [] later s = refl
stay c n (l ∷ ls) later s = stay c n ls later (on l.line s c n l.hint)
