-- The number of a lock.
use Rattle.std.specs.Prelude.{ℕ}
use Rattle.nmvs_history.specs.declared.histories.Histories.{Ghosts}
use Rattle.nmvs_desk.specs.declared.lock.Lock.{Lock}
use Rattle.nmvs_desk.specs.declared.lock.Lock.TheVariants.{Zero, One, Two, Three, Four, Five, Six, Seven}

abbrev pub number_of : {H B : Type 0} {g : Ghosts H} → Lock H B g → ℕ
number_of (Zero l) = 0
number_of (One l) = 1
number_of (Two l) = 2
number_of (Three l) = 3
number_of (Four l) = 4
number_of (Five l) = 5
number_of (Six l) = 6
number_of (Seven l) = 7
