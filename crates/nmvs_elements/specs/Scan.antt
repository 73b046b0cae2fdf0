-- The reading of scans: the bytes that a reader sends of the two-dimensional code of a pack.
use Rattle.std.specs.Prelude.{◌≡◌, ◌≢◌, ◌++◌, ◌-◌, not, ℕ, Bool, false, List, [], ◌∷◌, length, take, drop, nat_lt, Option, Some, None, is_none, Result, Ok, Err, codes, IsTrue, if◌then◌else◌}
use Rattle.std.specs.List.{find, list_any}
use Rattle.std.specs.Str.{bytes_eq}
use Rattle.nmvs_identifier.specs.Batch.{is_batch}
use Rattle.nmvs_identifier.specs.Expiry.{is_expiry}
use Rattle.nmvs_identifier.specs.ProductCode.{is_product_code}
use Rattle.nmvs_identifier.specs.Serial.{is_serial}
use Rattle.nmvs_identifier.specs.Texts.{Text}
use Rattle.nmvs_elements.specs.declared.identifiers.National.{National}
use Rattle.nmvs_elements.specs.declared.identifiers.ApplicationIdentifier.{ApplicationIdentifier}
use Rattle.nmvs_elements.specs.declared.identifiers.ApplicationIdentifier.TheVariants as identifiers
use Rattle.nmvs_elements.specs.declared.elements.Elements.{Elements}
use Rattle.nmvs_elements.specs.declared.fault.ScanFault.{ScanFault}
use Rattle.nmvs_elements.specs.declared.fault.ScanFault.TheVariants as faults
use Rattle.nmvs_elements.specs.Elements.{Element, skip_separator, identifier_text, is_value, IsKnown, required, BeginsWith, BeginsWithElements, value_of, AreDistinct}

-- the most bytes of a scan (own): a symbology identifier, a separator, and each element with its longest value and a
-- separator
abbrev pub longest_scan : ℕ
longest_scan = 100

-- the symbology identifiers of GS1 DataMatrix, GS1-128, GS1 QR Code and GS1 DataBar (ISO/IEC 15424; the table in chapter 5
-- of the GS1 General Specifications)
abbrev pub symbologies : List (List ℕ)
symbologies = codes "]d2" ∷ codes "]C1" ∷ codes "]Q3" ∷ codes "]e0" ∷ []

-- the bytes after the symbology identifier, if there is one; ]d1 is that of a Data Matrix that is none of GS1
abbrev pub behind_symbology : List ℕ → Result (List ℕ) ScanFault
behind_symbology scan =
    if list_any (bytes_eq (take 3 scan)) symbologies then Ok (drop 3 scan)
    else if bytes_eq (take 3 scan) (codes "]d1") then Err faults.PlainDataMatrix
    else if bytes_eq (take 1 scan) (codes "]") then Err faults.Symbology
    else Ok scan

-- no element that is read begins here, though there is more
pub record IsUnknown (nation : Option National) (bytes : List ℕ) : Type 0 where
  pub some : bytes ≢ []
  pub none : (identifier : ApplicationIdentifier) (content : List ℕ) → IsKnown nation identifier → bytes ≢ identifier_text identifier ++ content

-- an application identifier is here, and no whole value after it
pub record IsShort (nation : Option National) (bytes : List ℕ) (identifier : ApplicationIdentifier) : Type 0 where
  pub content : List ℕ
  pub known : IsKnown nation identifier
  pub these : bytes ≡ identifier_text identifier ++ content
  pub none : (value rest : List ℕ) → BeginsWith nation bytes (record { identifier = identifier; value = value }) rest → ⊥

-- an element begins here that was there before
pub record IsRepeated (nation : Option National) (es : List Element) (bytes : List ℕ) (identifier : ApplicationIdentifier) : Type 0 where
  pub value : List ℕ
  pub rest : List ℕ
  pub begins : BeginsWith nation bytes (record { identifier = identifier; value = value }) rest
  pub before : value_of es identifier ≢ None

-- whether an element is not there; whether it is there, and its value is not in its grammar
abbrev pub is_missing : (ApplicationIdentifier → Option (List ℕ)) → ApplicationIdentifier → Bool
is_missing values identifier = is_none (values identifier)

abbrev pub is_wrong : ApplicationIdentifier → Option (List ℕ) → Bool
is_wrong identifier None = false
is_wrong identifier (Some value) = not (is_value identifier value)

abbrev pub has_wrong : (ApplicationIdentifier → Option (List ℕ)) → ApplicationIdentifier → Bool
has_wrong values identifier = is_wrong identifier (values identifier)

-- the national number, if one is required
abbrev pub HasNational : Option National → (ApplicationIdentifier → Option (List ℕ)) → Option Text → Type 0
HasNational None values None = Unit {0}
HasNational None values (Some number) = ⊥
HasNational (Some nation) values None = ⊥
HasNational (Some nation) values (Some number) = (values (identifiers.NationalNumber nation) ≡ Some number.bytes) × IsTrue (is_serial number.bytes)

-- these values are those of a pack's code, each in its grammar
pub record ArePack (nation : Option National) (values : ApplicationIdentifier → Option (List ℕ)) (pack : Elements) : Type 0 where
  pub code : values identifiers.Code ≡ Some pack.code.bytes
  pub serial : values identifiers.Serial ≡ Some pack.serial.bytes
  pub batch : values identifiers.Batch ≡ Some pack.batch.bytes
  pub expiry : values identifiers.Expiry ≡ Some pack.expiry.bytes
  pub national : HasNational nation values pack.national
  pub is_code : IsTrue (is_product_code pack.code.bytes)
  pub is_serial : IsTrue (is_serial pack.serial.bytes)
  pub is_batch : IsTrue (is_batch pack.batch.bytes)
  pub is_expiry : IsTrue (is_expiry pack.expiry.bytes)

-- the reading of values, by the first that is missing and the first that is wrong
abbrev pub ReadsBy : Option ApplicationIdentifier → Option ApplicationIdentifier → Option National → (ApplicationIdentifier → Option (List ℕ)) → Result Elements ScanFault → Type 0
ReadsBy (Some missing) wrong nation values result = result ≡ Err (faults.Missing missing)
ReadsBy None (Some wrong) nation values result = result ≡ Err (faults.Value wrong)
ReadsBy None None nation values result = (pack : Elements) × (result ≡ Ok pack) × ArePack nation values pack

abbrev pub ReadsValues : Option National → (ApplicationIdentifier → Option (List ℕ)) → Result Elements ScanFault → Type 0
ReadsValues nation values result =
    ReadsBy (find (is_missing values) (required nation)) (find (has_wrong values) (required nation)) nation values result

-- the reason why reading stops after elements
pub data Stop : Type 0 where
  at_end : Stop
  at_unknown : Stop
  at_short : ApplicationIdentifier → Stop
  at_repeated : ApplicationIdentifier → Stop

abbrev pub StopsAt : Option National → List Element → List ℕ → Stop → Type 0
StopsAt nation es rest at_end = rest ≡ []
StopsAt nation es rest at_unknown = IsUnknown nation rest
StopsAt nation es rest (at_short identifier) = IsShort nation rest identifier
StopsAt nation es rest (at_repeated identifier) = IsRepeated nation es rest identifier

-- the fault of an unknown element has its place, unless it is the first: then there is no element
abbrev pub unknown_fault : List Element → ℕ → ScanFault
unknown_fault [] place = faults.NoElement
unknown_fault (e ∷ es) place = faults.Element place

-- the reading at this stop, of a scan of this size
abbrev pub ReadsStop : Option National → ℕ → List Element → List ℕ → Stop → Result Elements ScanFault → Type 0
ReadsStop nation size es rest at_end result = ReadsValues nation (value_of es) result
ReadsStop nation size es rest at_unknown result = result ≡ Err (unknown_fault es (size - length rest))
ReadsStop nation size es rest (at_short identifier) result = result ≡ Err (faults.Short identifier)
ReadsStop nation size es rest (at_repeated identifier) result = result ≡ Err (faults.Twice identifier)

-- the reading of an element string, in a scan of this size: elements from the left, none of them twice, as far as they go
pub record ReadsString (nation : Option National) (size : ℕ) (bytes : List ℕ) (result : Result Elements ScanFault) : Type 0 where
  pub elements : List Element
  pub rest : List ℕ
  pub these : BeginsWithElements nation bytes elements rest
  pub once : AreDistinct elements
  pub stop : Stop
  pub stops : StopsAt nation elements rest stop
  pub reads : ReadsStop nation size elements rest stop result

-- the reading of a scan
abbrev pub ReadsBehind : Option National → ℕ → Result (List ℕ) ScanFault → Result Elements ScanFault → Type 0
ReadsBehind nation size (Err fault) result = result ≡ Err fault
ReadsBehind nation size (Ok string) result = ReadsString nation size (skip_separator string) result

abbrev pub ReadsScan : Option National → List ℕ → Result Elements ScanFault → Type 0
ReadsScan nation scan result =
    ReadsBehind nation (length scan) (if nat_lt longest_scan (length scan) then Err faults.Long else behind_symbology scan) result
