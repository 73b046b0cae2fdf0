-- The statuses of the program, which are those of grep: 0 for yes, 1 for no, 2 in trouble (own).
use Rattle.std.specs.Prelude.{ℕ, Bool, true, false}
use Rattle.nmvs_record.specs.declared.finding.Finding.TheVariants as found
use Rattle.nmvs_reader.specs.declared.objection.Objection.TheVariants as against
use Rattle.nmvs_check.specs.declared.inspect_fault.InspectFault.{InspectFault}
use Rattle.nmvs_check.specs.declared.inspect_fault.InspectFault.TheVariants as inspect

-- whether a new export goes on from an old one, or all scans are read
abbrev pub status_of_answer : Bool → ℕ
status_of_answer true = 0
status_of_answer false = 1

-- a fault: the input is bad, or nothing is known of it, or not all of the answer was written
abbrev pub status_of : InspectFault → ℕ
status_of (inspect.Found found.Read) = 2
status_of (inspect.Found (found.Unended number)) = 1
status_of (inspect.Found (found.Line number against.Memory)) = 2
status_of (inspect.Found (found.Line number objection)) = 1
status_of (inspect.Answer fault) = 2
