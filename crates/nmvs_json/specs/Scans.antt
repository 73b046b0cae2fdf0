-- The reading of a scan, as a function that computes (own). It is that of nmvs_elements without a national number.
use Rattle.std.specs.Prelude.{ℕ, ◌-◌, zero, suc, ◌==◌, List, [], ◌∷◌, ◌++◌, length, take, drop, nat_lt, find, Option, Some, None, Result, Ok, Err, if◌then◌else◌}
use Rattle.std.specs.Option.{is_some, unwrap_or}
use Rattle.std.specs.Str.{bytes_eq}
use Rattle.nmvs_elements.specs.declared.identifiers.ApplicationIdentifier.{ApplicationIdentifier}
use Rattle.nmvs_elements.specs.declared.identifiers.ApplicationIdentifier.TheVariants as identifiers
use Rattle.nmvs_elements.specs.declared.elements.Elements.{Elements}
use Rattle.nmvs_elements.specs.declared.fault.ScanFault.{ScanFault}
use Rattle.nmvs_elements.specs.declared.fault.ScanFault.TheVariants as faults
use Rattle.nmvs_elements.specs.Elements.{Element, identifier_text, predefined_length, required, separator, skip_separator, value_of}
use Rattle.nmvs_elements.specs.Scan.{ReadsScan, behind_symbology, has_wrong, is_missing, longest_scan, unknown_fault}
use Rattle.nmvs_rules.specs.declared.printed.Printed.{Printed}

-- the scanned values of a question, or the fault of its scan
abbrev pub Scanned : Type 0
Scanned = Result Printed ScanFault

-- the number of bytes before the first separator, or before the end
abbrev pub value_end : List ℕ → ℕ
value_end [] = 0
value_end (b ∷ bs) = if b == separator then 0 else suc (value_end bs)

-- the value of the element with this identifier at the front of these bytes, and the bytes after it and its separator
abbrev pub value_with : ApplicationIdentifier → List ℕ → Option (List ℕ × List ℕ)
value_with identifier content =
    let size = unwrap_or (predefined_length identifier) (value_end content) in
    if nat_lt (value_end content) size then None else Some (take size content, skip_separator (drop size content))

-- the identifier at the front
abbrev pub identifier_at : List ℕ → Option ApplicationIdentifier
identifier_at bytes = find (λ identifier. bytes_eq (take 2 bytes) (identifier_text identifier)) (required None)

-- the value of an element that is there
abbrev pub value_at : (ApplicationIdentifier → Option (List ℕ)) → ApplicationIdentifier → List ℕ
value_at values identifier = unwrap_or (values identifier) []

-- the pack of values that are all there
abbrev pub pack_with : (ApplicationIdentifier → Option (List ℕ)) → Elements
pack_with values = record {
  code = record { bytes = value_at values identifiers.Code };
  serial = record { bytes = value_at values identifiers.Serial };
  batch = record { bytes = value_at values identifiers.Batch };
  expiry = record { bytes = value_at values identifiers.Expiry };
  national = None;
}

-- the pack of these values, by the first that is missing and the first that is wrong
abbrev pub pack_by : Option ApplicationIdentifier → Option ApplicationIdentifier → (ApplicationIdentifier → Option (List ℕ)) → Result Elements ScanFault
pack_by (Some missing) wrong values = Err (faults.Missing missing)
pack_by None (Some wrong) values = Err (faults.Value wrong)
pack_by None None values = Ok (pack_with values)

abbrev pub pack_of : (ApplicationIdentifier → Option (List ℕ)) → Result Elements ScanFault
pack_of values = pack_by (find (is_missing values) (required None)) (find (has_wrong values) (required None)) values

-- reads the rest of a string after these elements
abbrev pub Reader : Type 0
Reader = List Element → List ℕ → Result Elements ScanFault

-- the reading of an element after these: of its value and the bytes after it, by the reader of more
abbrev pub read_value : Reader → List Element → ApplicationIdentifier → Option (List ℕ × List ℕ) → Result Elements ScanFault
read_value more es identifier None = Err (faults.Short identifier)
read_value more es identifier (Some first) =
    if is_some (value_of es identifier) then Err (faults.Twice identifier) else more (es ++ record { identifier = identifier; value = first.0 } ∷ []) first.1

abbrev pub read_element : Reader → ℕ → List Element → List ℕ → Option ApplicationIdentifier → Result Elements ScanFault
read_element more size es rest None = Err (unknown_fault es (size - length rest))
read_element more size es rest (Some identifier) = read_value more es identifier (value_with identifier (drop 2 rest))

abbrev pub read_step : Reader → ℕ → List Element → List ℕ → Result Elements ScanFault
read_step more size es [] = pack_of (value_of es)
read_step more size es (b ∷ bs) = read_element more size es (b ∷ bs) (identifier_at (b ∷ bs))

-- the reading of the rest of a string after these elements, in a scan of this size: of fewer elements than this number
abbrev pub read_rest : ℕ → ℕ → List Element → List ℕ → Result Elements ScanFault
read_rest zero size es rest = Err faults.Long
read_rest (suc n) size es rest = read_step (read_rest n size) size es rest

-- the reading of a scan of this size after its symbology identifier
abbrev pub read_behind : ℕ → Result (List ℕ) ScanFault → Result Elements ScanFault
read_behind size (Err fault) = Err fault
read_behind size (Ok string) = read_rest (suc (length string)) size [] (skip_separator string)

-- the pack that a scan carries, or its fault
unfoldable pub scan_in : List ℕ → Result Elements ScanFault
scan_in scan = read_behind (length scan) (if nat_lt longest_scan (length scan) then Err faults.Long else behind_symbology scan)

-- the law that this is the reading of nmvs_elements
abbrev pub ScansAreComputed : Type 0
ScansAreComputed = (scan : List ℕ) → ReadsScan None scan (scan_in scan)
