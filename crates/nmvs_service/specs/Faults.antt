-- The faults of the program, their texts and their statuses (own).
use Rattle.std.specs.Prelude.{ℕ, List, ◌++◌, codes, Result, Ok, Err}
use Rattle.std.specs.Fmt.{decimal}
use Rattle.nmvs_messages.specs.declared.end.End.{End}
use Rattle.nmvs_messages.specs.declared.end.End.TheVariants as ends
use Rattle.nmvs_recovery.specs.Faults.{file_fault_status, file_fault_text}
use Rattle.nmvs_service.specs.declared.fault.Fault.{Fault}
use Rattle.nmvs_service.specs.declared.fault.Fault.TheVariants as faults

-- the result of the program after the session over standard input ended in this way
abbrev pub outcome : End → Result (Unit {0}) Fault
outcome ends.Quit = Ok tt
outcome ends.Ended = Ok tt
outcome ends.ReadFault = Err faults.SessionRead
outcome ends.WriteFault = Err faults.SessionWrite
outcome ends.Limit = Err faults.SessionLimit
outcome ends.Memory = Err faults.Memory

-- the text of a fault
abbrev pub fault_text : Fault → List ℕ
fault_text (faults.File fault) = file_fault_text fault
fault_text (faults.JournalUnwritten path) = codes "cannot write journal " ++ path.now
fault_text faults.Directory = codes "directory refused"
fault_text (faults.CannotListen port) = codes "cannot listen on port " ++ decimal port
fault_text (faults.CannotListenAt path) = codes "cannot listen at " ++ path.now
fault_text faults.LostClerk = codes "a clerk was lost"
fault_text faults.Random = codes "no random bytes"
fault_text faults.Memory = codes "out of memory"
fault_text (faults.Impossible state) = codes "impossible: " ++ state.now
fault_text faults.SessionRead = codes "session read fault"
fault_text faults.SessionWrite = codes "session write fault"
fault_text faults.SessionLimit = codes "session limit"

-- the status of a fault
abbrev pub fault_status : Fault → ℕ
fault_status (faults.File fault) = file_fault_status fault
fault_status (faults.JournalUnwritten path) = 4
fault_status faults.LostClerk = 5
fault_status _ = 1
