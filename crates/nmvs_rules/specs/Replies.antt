-- The numbers of refusals.
use Rattle.std.specs.Prelude.{ℕ}
use Rattle.nmvs_rules.specs.declared.refusal.Refusal.{Refusal}
use Rattle.nmvs_rules.specs.declared.refusal.Refusal.TheVariants as refusal

-- the number of a refusal in replies and entries (own)
abbrev pub refusal_number : Refusal → ℕ
refusal_number refusal.Role = 1
refusal_number refusal.Unknown = 2
refusal_number refusal.UnknownBatch = 3
refusal_number refusal.NotHolder = 4
refusal_number refusal.Duplicate = 5
refusal_number refusal.Already = 6
refusal_number refusal.Locked = 7
refusal_number refusal.StillActive = 8
refusal_number refusal.IsStolen = 9
refusal_number refusal.IsDestroyed = 10
refusal_number refusal.WasSupplied = 11
refusal_number refusal.Other = 12
refusal_number refusal.Late = 13
refusal_number refusal.Expired = 14
refusal_number refusal.NotHeld = 15
