-- The texts of faults, for the person who scans (own).
use Rattle.std.specs.Prelude.{ℕ, ◌+◌, List, ◌++◌, codes}
use Rattle.std.specs.Fmt.{decimal}
use Rattle.nmvs_elements.specs.declared.identifiers.ApplicationIdentifier.{ApplicationIdentifier}
use Rattle.nmvs_elements.specs.declared.identifiers.ApplicationIdentifier.TheVariants as identifiers
use Rattle.nmvs_elements.specs.declared.fault.ScanFault.{ScanFault}
use Rattle.nmvs_elements.specs.declared.fault.ScanFault.TheVariants as faults

-- the name of an element, with its application identifier
abbrev pub name_text : ApplicationIdentifier → List ℕ
name_text identifiers.Code = codes "product code (01)"
name_text identifiers.Serial = codes "serial number (21)"
name_text identifiers.Batch = codes "batch number (10)"
name_text identifiers.Expiry = codes "expiry date (17)"
name_text (identifiers.NationalNumber nation) = codes "national number (" ++ decimal (nation.digit + 662) ++ codes ")"

-- the text of a fault
abbrev pub fault_text : ScanFault → List ℕ
fault_text faults.Long = codes "the scan is longer than a pack's code can be: scan one code at a time"
fault_text faults.PlainDataMatrix = codes "this is a Data Matrix code, but none of GS1: scan the code with the product code and the serial number"
fault_text faults.Symbology = codes "this code is of a kind that no pack has: scan the square two-dimensional code"
fault_text faults.NoElement = codes "this is not the code of a pack: scan the square two-dimensional code"
fault_text (faults.Element place) = codes "what stands behind " ++ decimal place ++ codes " characters of the scan is none of the elements that are read"
fault_text (faults.Short identifier) = codes "the " ++ name_text identifier ++ codes " ends too early: scan again"
fault_text (faults.Twice identifier) = codes "the " ++ name_text identifier ++ codes " stands there twice: scan one code at a time"
fault_text (faults.Missing identifier) = codes "the scan has no " ++ name_text identifier ++ codes ": if it is printed on the pack, the scanner leaves out separators"
fault_text (faults.Value identifier) = codes "the " ++ name_text identifier ++ codes " is not well-formed: scan again, and check the scanner's keyboard layout"
