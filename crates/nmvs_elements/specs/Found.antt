-- The values that were found so far.
use Rattle.std.specs.Prelude.{◌≡◌, ℕ, List, Option, Some, None}
use Rattle.std.specs.Borrow.{Bor}
use Rattle.nmvs_elements.specs.declared.identifiers.National.{National}
use Rattle.nmvs_elements.specs.declared.identifiers.ApplicationIdentifier.{ApplicationIdentifier}
use Rattle.nmvs_elements.specs.declared.identifiers.ApplicationIdentifier.TheVariants as identifiers
use Rattle.nmvs_elements.specs.declared.found.Found.{Found}
use Rattle.nmvs_elements.specs.Elements.{Element, BeginsWithElements, AreDistinct, value_of}

abbrev pub now_of : Option (Bor (List ℕ)) → Option (List ℕ)
now_of None = None
now_of (Some value) = Some value.now

-- the value of an element, if it was found
abbrev pub found_at : Found → ApplicationIdentifier → Option (List ℕ)
found_at found identifiers.Code = now_of found.code
found_at found identifiers.Serial = now_of found.serial
found_at found identifiers.Batch = now_of found.batch
found_at found identifiers.Expiry = now_of found.expiry
found_at found (identifiers.NationalNumber nation) = now_of found.national

-- the values are those of the elements before the rest
pub record HasFound (nation : Option National) (bytes : List ℕ) (found : Found) (rest : List ℕ) : Type 0 where
  pub elements : List Element
  pub these : BeginsWithElements nation bytes elements rest
  pub once : AreDistinct elements
  pub values : (identifier : ApplicationIdentifier) → found_at found identifier ≡ value_of elements identifier
