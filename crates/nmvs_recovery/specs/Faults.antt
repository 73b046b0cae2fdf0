-- The faults of files that are read or written, and their texts (own).
use Rattle.std.specs.Prelude.{ℕ, List, ◌++◌, codes}
use Rattle.std.specs.Fmt.{decimal}
use Rattle.nmvs_recovery.specs.declared.fault.FileFault.{FileFault}
use Rattle.nmvs_recovery.specs.declared.fault.FileFault.TheVariants as faults
use Rattle.nmvs_digest.specs.declared.digest_fault.DigestFault.{DigestFault}
use Rattle.nmvs_digest.specs.declared.digest_fault.DigestFault.TheVariants as digests
use Rattle.nmvs_operator.specs.Users.{users_trouble}
use Rattle.nmvs_record.specs.declared.finding.Finding.{Finding}
use Rattle.nmvs_record.specs.declared.finding.Finding.TheVariants as findings
use Rattle.nmvs_reader.specs.declared.objection.Objection.TheVariants as objections

-- the text of a fault
abbrev pub file_fault_text : FileFault → List ℕ
file_fault_text (faults.CannotRead path) = codes "cannot read " ++ path.now
file_fault_text (faults.CannotWrite path) = codes "cannot write " ++ path.now
file_fault_text (faults.UsersLine number fault) = codes "users line " ++ decimal number ++ codes ": " ++ users_trouble fault
file_fault_text (faults.UsersEnd number) = codes "users line " ++ decimal number ++ codes ": it has no end: UNENDED"
file_fault_text (faults.ImportLine number) = codes "import line " ++ decimal number
file_fault_text (faults.ImportUnlawful number) = codes "import line " ++ decimal number ++ codes " is unlawful"
file_fault_text (faults.ImportRepeated number) = codes "import line " ++ decimal number ++ codes " was asked before with its tag"
file_fault_text (faults.JournalRefused path) = codes "journal " ++ path.now ++ codes " refused"
file_fault_text (faults.ImportDigest path) = codes "the digest of " ++ path.now ++ codes " is not the one in " ++ path.now ++ codes ".sha256"
file_fault_text (faults.NoDigest path) = path.now ++ codes ".sha256 is no digest of " ++ path.now
file_fault_text (faults.CannotReadDigest path) = codes "cannot read " ++ path.now ++ codes ".sha256"
file_fault_text faults.Fenced = codes "another server has taken the log over"
file_fault_text faults.Memory = codes "out of memory"

-- the exit status of a fault
abbrev pub file_fault_status : FileFault → ℕ
file_fault_status (faults.ImportLine number) = 3
file_fault_status (faults.ImportUnlawful number) = 3
file_fault_status (faults.ImportRepeated number) = 3
file_fault_status (faults.JournalRefused path) = 3
file_fault_status (faults.ImportDigest path) = 3
file_fault_status (faults.NoDigest path) = 3
file_fault_status (faults.CannotWrite path) = 4
file_fault_status faults.Fenced = 6
file_fault_status _ = 1

-- the text of the fault of the import of this path, by this finding
abbrev pub import_text : List ℕ → Finding → List ℕ
import_text path findings.Read = codes "cannot read " ++ path
import_text path (findings.Unended number) = codes "import line " ++ decimal number
import_text path (findings.Line number objections.Memory) = codes "out of memory"
import_text path (findings.Line number (objections.Unlawful stored rules)) = codes "import line " ++ decimal number ++ codes " is unlawful"
import_text path (findings.Line number objections.Repeated) = codes "import line " ++ decimal number ++ codes " was asked before with its tag"
import_text path (findings.Line number objection) = codes "import line " ++ decimal number

-- the text of the fault of the import of this path whose digest is not known
abbrev pub digest_text : List ℕ → DigestFault → List ℕ
digest_text path digests.Memory = codes "out of memory"
digest_text path digests.Unread = codes "cannot read " ++ path ++ codes ".sha256"
digest_text path digests.Malformed = path ++ codes ".sha256 is no digest of " ++ path
