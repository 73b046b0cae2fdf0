-- The element at the front of an element string.
use Rattle.std.specs.Prelude.{◌≡◌, ◌≢◌, ◌++◌, ◌⊎◌, ℕ, List, Option, IsTrue}
use Rattle.std.specs.List.{list_all}
use Rattle.nmvs_elements.specs.declared.identifiers.National.{National}
use Rattle.nmvs_elements.specs.declared.identifiers.ApplicationIdentifier.{ApplicationIdentifier}
use Rattle.nmvs_elements.specs.declared.fault.ScanFault.{ScanFault}
use Rattle.nmvs_elements.specs.declared.fault.ScanFault.TheVariants as faults
use Rattle.nmvs_elements.specs.Elements.{EndsValue, IsKnown, identifier_text, is_value_byte}
use Rattle.nmvs_elements.specs.Scan.{IsShort}

-- the content is a value and the bytes after it
pub record IsValueBefore (predefined : Option ℕ) (content value behind : List ℕ) : Type 0 where
  pub these : content ≡ value ++ behind
  pub one_piece : IsTrue (list_all is_value_byte value)
  pub ends : EndsValue predefined value behind

-- no application identifier that is read stands at the front
abbrev pub HasNoIdentifier : Option National → List ℕ → Type 0
HasNoIdentifier nation bytes = (identifier : ApplicationIdentifier) (content : List ℕ) → IsKnown nation identifier → bytes ≢ identifier_text identifier ++ content

-- the fault of bytes that begin with no element: no application identifier stands there, or no whole value after it
abbrev pub HasNoElement : Option National → List ℕ → ScanFault → ScanFault → Type 0
HasNoElement nation bytes unknown fault =
    ((fault ≡ unknown) × HasNoIdentifier nation bytes) ⊎ ((identifier : ApplicationIdentifier) × (fault ≡ faults.Short identifier) × IsShort nation bytes identifier)
