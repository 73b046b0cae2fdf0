-- All faults of a users file (own).
use Rattle.std.specs.Prelude.{◌+◌, if◌then◌else◌, ℕ, Bool, true, not, ◌&&◌, List, [], ◌∷◌, ◌++◌, length, Option, Some, None, codes, decimal}
use Rattle.std.specs.List.{flat_map}
use Rattle.nmvs_messages.specs.Commands.{first_command_fault}
use Rattle.nmvs_messages.specs.declared.command.CommandFault.{CommandFault}
use Rattle.nmvs_messages.specs.declared.command.CommandFault.TheVariants as commands
use Rattle.nmvs_words.specs.Words.{spaced}
use Rattle.nmvs_stream.specs.InputLines.{input_lines, unfinished_line}
use Rattle.nmvs_operator.specs.Users.{says}
use Rattle.nmvs_operator.specs.declared.faults.LoadFault.{LoadFault}
use Rattle.nmvs_operator.specs.declared.faults.LoadFault.TheVariants.{Line, Unended, Read, Memory}
use Rattle.nmvs_operator.specs.declared.users_check.UsersFault.{UsersFault}

-- a fault, and the line that it is about
abbrev pub shown : UsersFault → LoadFault × List ℕ
shown f = (f.fault, f.line.now)

-- this fault of the line of this number, if there is one
abbrev pub fault_list : ℕ → List ℕ → Option CommandFault → List (LoadFault × List ℕ)
fault_list number line None = []
fault_list number line (Some fault) = (Line number fault, line) ∷ []

-- the fault of the line of this number, if it says something and is no command
abbrev pub line_faults : ℕ → List ℕ → List (LoadFault × List ℕ)
line_faults number line = if says line then fault_list number line (first_command_fault line) else []

-- the faults of these lines, the first of which has this number
abbrev pub lines_faults : ℕ → List (List ℕ) → List (LoadFault × List ℕ)
lines_faults number [] = []
lines_faults number (line ∷ lines) = line_faults number line ++ lines_faults (number + 1) lines

-- the fault of the bytes after the last LF, if there are any
abbrev pub end_faults : ℕ → List ℕ → List (LoadFault × List ℕ)
end_faults number [] = []
end_faults number (b ∷ bs) = (Unended number, b ∷ bs) ∷ []

-- the faults of bytes whose first line has this number
abbrev pub faults_from : ℕ → List ℕ → List (LoadFault × List ℕ)
faults_from number bytes =
    lines_faults number (input_lines bytes) ++ end_faults (number + length (input_lines bytes)) (unfinished_line bytes)

-- the word of the fault of a line, which names a field that is wrong
abbrev pub line_word : CommandFault → List ℕ
line_word commands.Long = codes "LONG"
line_word commands.Bytes = codes "BYTES"
line_word commands.Fields = codes "FIELDS"
line_word commands.Word = codes "WORD"
line_word commands.Role = codes "ROLE"
line_word commands.User = codes "USER"
line_word commands.Authorisation = codes "AUTHORISATION"
line_word commands.Premises = codes "PREMISES"
line_word commands.Until = codes "UNTIL"
line_word commands.Codes = codes "CODES"

-- the line about one fault for the operator: the number of the faulty line, and the word of the fault
abbrev pub fault_line : LoadFault × List ℕ → List ℕ
fault_line (Line number fault, line) = spaced (codes "LINE" ∷ decimal number ∷ line_word fault ∷ [])
fault_line (Unended number, line) = spaced (codes "LINE" ∷ decimal number ∷ codes "UNENDED" ∷ [])
fault_line (Read, line) = []
fault_line (Memory, line) = []

-- the lines about the faults that a check found
abbrev pub told_faults : List UsersFault → List ℕ
told_faults faults = flat_map (λ f. fault_line (shown f)) faults

-- the lines about faults for the operator
abbrev pub fault_lines : List (LoadFault × List ℕ) → List ℕ
fault_lines faults = flat_map fault_line faults

-- the answer to RELOAD about these faults of a users file: empty if there are none
abbrev pub faults_text : List (LoadFault × List ℕ) → List ℕ
faults_text [] = []
faults_text (f ∷ fs) = fault_lines (f ∷ fs) ++ codes "FAULT USERS\n"

-- whether none of these lines says something
abbrev pub say_nothing : List (List ℕ) → Bool
say_nothing [] = true
say_nothing (line ∷ lines) = not (says line) && say_nothing lines

-- whether a users file of these bytes changes nothing: each of its lines is blank or a comment
abbrev pub changes_nothing : List ℕ → Bool
changes_nothing bytes = say_nothing (input_lines bytes)
