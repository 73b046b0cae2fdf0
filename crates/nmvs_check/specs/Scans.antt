-- The answers to lines of scans (own).
use Rattle.std.specs.Prelude.{◌≡◌, ℕ, ◌+◌, Bool, true, List, [], ◌∷◌, ◌++◌, length, Option, Some, None, Result, Ok, Err, is_ok, codes}
use Rattle.std.specs.Fmt.{decimal}
use Rattle.std.specs.List.{list_all}
use Rattle.csv.specs.Writing.{default_writer, row_text}
use Rattle.nmvs_identifier.specs.Texts.{Text}
use Rattle.nmvs_stream.specs.Delivery.{Delivers}
use Rattle.nmvs_stream.specs.InputLines.{input_lines, unfinished_line}
use Rattle.nmvs_stream.specs.Sink.{Taken}
use Rattle.nmvs_stream.specs.Source.{Told}
use Rattle.nmvs_elements.specs.declared.elements.Elements.{Elements}
use Rattle.nmvs_elements.specs.declared.fault.ScanFault.{ScanFault}
use Rattle.nmvs_elements.specs.declared.identifiers.National.{National}
use Rattle.nmvs_elements.specs.Faults as scan
use Rattle.nmvs_elements.specs.Scan.{ReadsScan}
use Rattle.nmvs_inspect.specs.Gathering.{IsGathered}
use Rattle.nmvs_check.specs.declared.line_fault.LineFault.{LineFault}
use Rattle.nmvs_check.specs.declared.line_fault.LineFault.TheVariants as faults
use Rattle.nmvs_check.specs.declared.scans.Rows.{Rows}

-- the reading of a line: the elements of a pack, or a fault
abbrev pub Reading : Type 0
Reading = Result Elements LineFault

-- the text of a fault
abbrev pub fault_text : LineFault → List ℕ
fault_text faults.Empty = codes "the line is empty"
fault_text faults.Unended = codes "the line lacks its LF"
fault_text (faults.Scan fault) = scan.fault_text fault

abbrev pub reading_of : Result Elements ScanFault → Reading
reading_of (Ok pack) = Ok pack
reading_of (Err fault) = Err (faults.Scan fault)

-- a line is read as the scan that it is
abbrev pub ReadsLine : Option National → List ℕ → Reading → Type 0
ReadsLine nation [] reading = reading ≡ Err faults.Empty
ReadsLine nation (b ∷ bs) reading = (read : Result Elements ScanFault) × ReadsScan nation (b ∷ bs) read × (reading ≡ reading_of read)

-- each of these lines
abbrev pub ReadsLines : Option National → List (List ℕ) → List Reading → Type 0
ReadsLines nation [] [] = Unit {0}
ReadsLines nation (line ∷ lines) (reading ∷ readings) = ReadsLine nation line reading × ReadsLines nation lines readings
ReadsLines nation [] (reading ∷ readings) = ⊥
ReadsLines nation (line ∷ lines) [] = ⊥

-- the bytes after the last LF are no line
abbrev pub unended : List ℕ → List Reading
unended [] = []
unended (b ∷ bs) = Err faults.Unended ∷ []

-- the cells of a line: its number, the elements or else empty cells, and why it is not read
abbrev pub national_cell : Option Text → List ℕ
national_cell None = []
national_cell (Some number) = number.bytes

abbrev pub pack_cells : List ℕ → Elements → List (List ℕ)
pack_cells number pack = number ∷ pack.code.bytes ∷ pack.serial.bytes ∷ pack.batch.bytes ∷ pack.expiry.bytes ∷ national_cell pack.national ∷ [] ∷ []

abbrev pub fault_cells : List ℕ → LineFault → List (List ℕ)
fault_cells number fault = number ∷ [] ∷ [] ∷ [] ∷ [] ∷ [] ∷ fault_text fault ∷ []

abbrev pub cells : ℕ → Reading → List (List ℕ)
cells n (Ok pack) = pack_cells (decimal n) pack
cells n (Err fault) = fault_cells (decimal n) fault

-- its row
abbrev pub row : ℕ → Reading → List ℕ
row n reading = row_text default_writer (cells n reading)

-- rows that are numbered from n
abbrev pub rows_from : ℕ → List Reading → List ℕ
rows_from n [] = []
rows_from n (reading ∷ readings) = row n reading ++ rows_from (n + 1) readings

-- the answer, with its header
abbrev pub header : List ℕ
header = codes "line,code,serial,batch,expiry,national,fault\n"

abbrev pub scans_text : List Reading → List ℕ
scans_text readings = header ++ rows_from 1 readings

-- the lines of an input and the bytes after the last LF are answered; `all` is whether all of them are read
pub record Finished (nation : Option National) (sink sink' : Taken) (input : List ℕ) (all : Bool) : Type 0 where
  pub lines : List Reading
  pub each : ReadsLines nation (input_lines input) lines
  pub delivered : Delivers sink sink' (scans_text (lines ++ unended (unfinished_line input)))
  pub all_read : all ≡ list_all is_ok (lines ++ unended (unfinished_line input))

-- all that was read, to its end, is answered
pub record Tells (nation : Option National) (source source' : Told) (sink sink' : Taken) (all : Bool) : Type 0 where
  pub input : List ℕ
  pub read : source'.bytes ≡ source.bytes ++ input
  pub ended : source'.ended ≡ true
  pub answered : Finished nation sink sink' input all

-- the rows of these lines are gathered, of which the sink took some since `start`
pub record Answered (nation : Option National) (start sink : Taken) (rows : Rows) (lines : List (List ℕ)) : Type 0 where
  pub readings : List Reading
  pub each : ReadsLines nation lines readings
  pub count : rows.count ≡ length readings
  pub all_read : rows.all_read ≡ list_all is_ok readings
  pub gathered : IsGathered start sink rows.block.items (scans_text readings)
