-- Element strings: elements that follow one another, each an application identifier and a value (GS1 General
-- Specifications, section 3.2). The code of a pack has a few of them (Article 4 of the Regulation).
use Rattle.std.specs.Prelude.{◌≡◌, ◌++◌, ◌==◌, not, ℕ, Bool, List, [], ◌∷◌, length, Option, Some, None, codes, IsTrue, if◌then◌else◌}
use Rattle.std.specs.List.{list_all}
use Rattle.nmvs_identifier.specs.Batch.{is_batch}
use Rattle.nmvs_identifier.specs.Expiry.{is_expiry}
use Rattle.nmvs_identifier.specs.ProductCode.{is_product_code}
use Rattle.nmvs_identifier.specs.Serial.{is_serial}
use Rattle.nmvs_elements.specs.declared.identifiers.National.{National}
use Rattle.nmvs_elements.specs.declared.identifiers.ApplicationIdentifier.{ApplicationIdentifier}
use Rattle.nmvs_elements.specs.declared.identifiers.ApplicationIdentifier.TheVariants as identifiers

-- an element
pub record Element : Type 0 where
  pub identifier : ApplicationIdentifier
  pub value : List ℕ

-- FNC1, as a reader sends it (section 7.8): the one separator
abbrev pub separator : ℕ
separator = 29

-- the printed text of an application identifier
abbrev pub identifier_text : ApplicationIdentifier → List ℕ
identifier_text identifiers.Code = codes "01"
identifier_text identifiers.Serial = codes "21"
identifier_text identifiers.Batch = codes "10"
identifier_text identifiers.Expiry = codes "17"
identifier_text (identifiers.NationalNumber nation) = codes "71" ++ nation.digit ∷ []

-- the number of its first two digits
abbrev pub first_digits : ApplicationIdentifier → ℕ
first_digits identifiers.Code = 1
first_digits identifiers.Serial = 21
first_digits identifiers.Batch = 10
first_digits identifiers.Expiry = 17
first_digits (identifiers.NationalNumber nation) = 71

-- the length of an element's values, if it is predefined (section 7.8)
abbrev pub predefined_length : ApplicationIdentifier → Option ℕ
predefined_length identifiers.Code = Some 14
predefined_length identifiers.Serial = None
predefined_length identifiers.Batch = None
predefined_length identifiers.Expiry = Some 6
predefined_length (identifiers.NationalNumber nation) = None

-- whether a value is in the grammar of its element; a national number has that of a serial number (section 3.8)
abbrev pub is_value : ApplicationIdentifier → List ℕ → Bool
is_value identifiers.Code value = is_product_code value
is_value identifiers.Serial value = is_serial value
is_value identifiers.Batch value = is_batch value
is_value identifiers.Expiry value = is_expiry value
is_value (identifiers.NationalNumber nation) value = is_serial value

-- the elements that are read: those of Article 4 of the Regulation, with the number of one nation at most
abbrev pub IsKnown : Option National → ApplicationIdentifier → Type 0
IsKnown nation identifiers.Code = Unit {0}
IsKnown nation identifiers.Serial = Unit {0}
IsKnown nation identifiers.Batch = Unit {0}
IsKnown nation identifiers.Expiry = Unit {0}
IsKnown nation (identifiers.NationalNumber n) = nation ≡ Some n

-- each of them, in the order in which a missing one is reported
abbrev pub national_numbers : Option National → List ApplicationIdentifier
national_numbers None = []
national_numbers (Some nation) = identifiers.NationalNumber nation ∷ []

abbrev pub required : Option National → List ApplicationIdentifier
required nation = identifiers.Code ∷ identifiers.Serial ∷ identifiers.Batch ∷ identifiers.Expiry ∷ national_numbers nation

-- whether a byte may be part of a value
abbrev pub is_value_byte : ℕ → Bool
is_value_byte b = not (b == separator)

-- a value that ends at a separator has one after it, or nothing
abbrev pub IsSeparated : List ℕ → Type 0
IsSeparated [] = Unit {0}
IsSeparated (b ∷ bs) = b ≡ separator

-- the end of a value: by its length, or at a separator
abbrev pub EndsValue : Option ℕ → List ℕ → List ℕ → Type 0
EndsValue (Some predefined) value behind = length value ≡ predefined
EndsValue None value behind = IsSeparated behind

-- the bytes after one separator, if one stands there
abbrev pub skip_separator : List ℕ → List ℕ
skip_separator [] = []
skip_separator (b ∷ bs) = if b == separator then bs else b ∷ bs

-- the bytes begin with an element, and the rest is after it
pub record BeginsWith (nation : Option National) (bytes : List ℕ) (e : Element) (rest : List ℕ) : Type 0 where
  pub behind : List ℕ
  pub these : bytes ≡ identifier_text e.identifier ++ (e.value ++ behind)
  pub known : IsKnown nation e.identifier
  pub one_piece : IsTrue (list_all is_value_byte e.value)
  pub ends : EndsValue (predefined_length e.identifier) e.value behind
  pub skipped : rest ≡ skip_separator behind

-- the bytes begin with these elements, and the rest is after them
abbrev pub BeginsWithElements : Option National → List ℕ → List Element → List ℕ → Type 0
BeginsWithElements nation bytes [] rest = bytes ≡ rest
BeginsWithElements nation bytes (e ∷ es) rest = (behind : List ℕ) × BeginsWith nation bytes e behind × BeginsWithElements nation behind es rest

-- the value of the first element whose identifier begins with these digits
abbrev pub value_at : ℕ → List Element → Option (List ℕ)
value_at digits [] = None
value_at digits (e ∷ es) = if digits == first_digits e.identifier then Some e.value else value_at digits es

abbrev pub value_of : List Element → ApplicationIdentifier → Option (List ℕ)
value_of es identifier = value_at (first_digits identifier) es

-- no element stands twice
abbrev pub AreDistinct : List Element → Type 0
AreDistinct [] = Unit {0}
AreDistinct (e ∷ es) = (value_of es e.identifier ≡ None) × AreDistinct es
