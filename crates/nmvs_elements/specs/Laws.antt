-- Laws of scans.
use Rattle.std.specs.Prelude.{◌≡◌, ◌++◌, ◌≤◌, ◌⊎◌, ℕ, Bool, true, false, List, [], ◌∷◌, map, Option, Some, None, IfSome, Result, Ok, if◌then◌else◌}
use Rattle.std.specs.List.{AllByRecursion}
use Rattle.nmvs_elements.specs.declared.identifiers.National.{National}
use Rattle.nmvs_elements.specs.declared.elements.Elements.{Elements}
use Rattle.nmvs_elements.specs.declared.fault.ScanFault.{ScanFault}
use Rattle.nmvs_elements.specs.Elements.{Element, separator, identifier_text, predefined_length, IsKnown, AreDistinct, value_of}
use Rattle.nmvs_elements.specs.Scan.{ArePack, ReadsScan, symbologies}

-- an element as it is printed, and whether a separator stands after it
pub record Printed : Type 0 where
  pub element : Element
  pub separated : Bool

abbrev pub separator_where : Bool → List ℕ
separator_where stands = if stands then separator ∷ [] else []

-- the string of elements
abbrev pub printed_text : List Printed → List ℕ
printed_text [] = []
printed_text (p ∷ ps) = identifier_text p.element.identifier ++ (p.element.value ++ (separator_where p.separated ++ printed_text ps))

abbrev pub elements_of : List Printed → List Element
elements_of ps = map (λ p. p.element) ps

-- whether a separator that is needed stands there: after a value whose length is not predefined, if more follows (section
-- 7.8)
abbrev pub IsNeeded : Option ℕ → Bool → Type 0
IsNeeded (Some predefined) stands = Unit {0}
IsNeeded None stands = stands ≡ true

abbrev pub IsLost : Option ℕ → Bool → Type 0
IsLost (Some predefined) stands = ⊥
IsLost None stands = stands ≡ false

-- each that is needed stands there
abbrev pub AreSeparated : List Printed → Type 0
AreSeparated [] = Unit {0}
AreSeparated (p ∷ []) = Unit {0}
AreSeparated (p ∷ q ∷ ps) = IsNeeded (predefined_length p.element.identifier) p.separated × AreSeparated (q ∷ ps)

-- one or more of them do not
abbrev pub LackSeparators : List Printed → Type 0
LackSeparators [] = ⊥
LackSeparators (p ∷ []) = ⊥
LackSeparators (p ∷ q ∷ ps) = IsLost (predefined_length p.element.identifier) p.separated ⊎ LackSeparators (q ∷ ps)

-- the elements of a pack's code, in any order: each that is required once, in its grammar, and no others
pub record IsPackCode (nation : Option National) (ps : List Printed) (pack : Elements) : Type 0 where
  pub nation_known : IfSome nation (λ n. (48 ≤ n.digit) × (n.digit ≤ 54))
  pub known : AllByRecursion (λ (p : Printed). IsKnown nation p.element.identifier) ps
  pub once : AreDistinct (elements_of ps)
  pub values : ArePack nation (value_of (elements_of ps)) pack

-- one of the symbology identifiers, or none
abbrev pub IsOneOf : List (List ℕ) → List ℕ → Type 0
IsOneOf [] bytes = ⊥
IsOneOf (s ∷ ss) bytes = (bytes ≡ s) ⊎ IsOneOf ss bytes

abbrev pub IsSymbology : List ℕ → Type 0
IsSymbology bytes = IsOneOf ([] ∷ symbologies) bytes

-- a scan of a printed code: a symbology identifier or none, a separator or none, and the elements
abbrev pub scan_of : List ℕ → Bool → List Printed → List ℕ
scan_of symbology separated ps = symbology ++ (separator_where separated ++ printed_text ps)

-- each printed form of a pack's code is read as its elements
abbrev pub ScansAreRead : Type 0
ScansAreRead = (nation : Option National) (symbology : List ℕ) (separated : Bool) (ps : List Printed) (pack : Elements) → IsSymbology symbology → IsPackCode nation ps pack → AreSeparated ps
    → ReadsScan nation (scan_of symbology separated ps) (Ok pack)

-- a scan of a pack's code that lost separators is read as no pack
abbrev pub LostSeparatorsAreSeen : Type 0
LostSeparatorsAreSeen = (nation : Option National) (symbology : List ℕ) (separated : Bool) (ps : List Printed) (pack other : Elements) → IsSymbology symbology → IsPackCode nation ps pack → LackSeparators ps
    → ReadsScan nation (scan_of symbology separated ps) (Ok other) → ⊥

-- a scan is read in one way
abbrev pub OneReading : Type 0
OneReading = (nation : Option National) (scan : List ℕ) (r s : Result Elements ScanFault) → ReadsScan nation scan r → ReadsScan nation scan s → r ≡ s

-- a value is a piece of the scan
abbrev pub IsPiece : List ℕ → List ℕ → Type 0
IsPiece scan value = (front : List ℕ) × (back : List ℕ) × (scan ≡ front ++ (value ++ back))

abbrev pub ValuesArePieces : Type 0
ValuesArePieces = (nation : Option National) (scan : List ℕ) (pack : Elements) → ReadsScan nation scan (Ok pack)
    → IsPiece scan pack.code.bytes × IsPiece scan pack.serial.bytes × IsPiece scan pack.batch.bytes × IsPiece scan pack.expiry.bytes × IfSome pack.national (λ number. IsPiece scan number.bytes)
