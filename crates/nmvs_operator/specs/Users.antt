-- Users files (own).
use Rattle.std.specs.Prelude.{◌≡◌, ◌+◌, ◌<◌, ◌==◌, ◌⊎◌, ℕ, Bool, List, [], ◌∷◌, ◌++◌, length, map, filter, not, codes, All, IsTrue, Some, true, false}
use Rattle.nmvs_directory.specs.declared.change.Change.{Change}
use Rattle.nmvs_directory.specs.declared.change.Effect.TheVariants as effects
use Rattle.nmvs_messages.specs.Commands.{command_line, first_command_fault, is_command}
use Rattle.nmvs_stream.specs.InputLines.{input_lines, unfinished_line}
use Rattle.nmvs_messages.specs.declared.command.Command.{Command}
use Rattle.nmvs_messages.specs.declared.command.Command.TheVariants.{Enrol, Suspend, Remove}
use Rattle.nmvs_messages.specs.declared.command.CommandFault.{CommandFault}
use Rattle.nmvs_messages.specs.declared.command.CommandFault.TheVariants as commands
use Rattle.nmvs_stream.specs.Source.{Told}
use Rattle.nmvs_operator.specs.declared.faults.LoadFault.{LoadFault}
use Rattle.nmvs_operator.specs.declared.faults.LoadFault.TheVariants as load

-- the change that a command makes
abbrev pub change_of : Command → Change
change_of (Enrol user enrolment) = record { user = user; effect = effects.Enrol enrolment }
change_of (Suspend user) = record { user = user; effect = effects.Suspend }
change_of (Remove user) = record { user = user; effect = effects.Remove }

-- the texts of these commands are names
abbrev pub AreCommands : List Command → Type 0
AreCommands commands = All (λ c. IsTrue (is_command c)) commands

-- whether a line of a users file says something: it is neither blank nor a comment, which begins with #
abbrev pub says : List ℕ → Bool
says [] = false
says (b ∷ bs) = not (b == 35)

-- those of these lines that say something are the lines of these commands
pub record AreLinesOf (lines : List (List ℕ)) (commands : List Command) : Type 0 where
  pub valid : AreCommands commands
  pub these : filter says lines ≡ map command_line commands

-- the changes of these commands are added to those that were pending
abbrev pub Adds : List Command → List Change → List Change → Type 0
Adds commands before after = after ≡ before ++ map change_of commands

-- the changes of a users file, each line of which has its LF, are added to those that were pending
pub record AddsAll (bytes : List ℕ) (before after : List Change) : Type 0 where
  pub commands : List Command
  pub file : AreLinesOf (input_lines bytes) commands
  pub whole : unfinished_line bytes ≡ []
  pub changes : Adds commands before after

-- the changes of the first lines of a users file are added to those that were pending
pub record AddsFirst (bytes : List ℕ) (before after : List Change) : Type 0 where
  pub first : List (List ℕ)
  pub rest : List (List ℕ)
  pub these : input_lines bytes ≡ first ++ rest
  pub commands : List Command
  pub file : AreLinesOf first commands
  pub changes : Adds commands before after

-- the line of this number, counted from 1, says something and has this fault. The changes of the lines before it are
-- added to those that were pending.
pub record StopsAt (bytes : List ℕ) (number : ℕ) (fault : CommandFault) (before after : List Change) : Type 0 where
  pub first : List (List ℕ)
  pub line : List ℕ
  pub rest : List (List ℕ)
  pub these : input_lines bytes ≡ first ++ line ∷ rest
  pub count : number ≡ length first + 1
  pub says_it : says line ≡ true
  pub judged : first_command_fault line ≡ Some fault
  pub commands : List Command
  pub file : AreLinesOf first commands
  pub changes : Adds commands before after

-- the bytes after the last LF would be the line of this number, counted from 1. The changes of the lines before them
-- are added to those that were pending.
pub record StopsShort (bytes : List ℕ) (number : ℕ) (before after : List Change) : Type 0 where
  pub count : number ≡ length (input_lines bytes) + 1
  pub some : 0 < length (unfinished_line bytes)
  pub commands : List Command
  pub file : AreLinesOf (input_lines bytes) commands
  pub changes : Adds commands before after

-- the meaning of a fault for a users file, and for the changes that are pending since
abbrev pub Tells : List ℕ → List Change → List Change → LoadFault → Type 0
Tells bytes before after (load.Line number fault) = StopsAt bytes number fault before after
Tells bytes before after (load.Unended number) = StopsShort bytes number before after
Tells bytes before after load.Read = ⊥
Tells bytes before after load.Memory = AddsFirst bytes before after

-- the users file that was read to its end, and the changes that it added to those pending, are published
pub record Loads (source source' : Told) (published pending published' : List Change) : Type 0 where
  pub bytes : List ℕ
  pub read : source'.bytes ≡ source.bytes ++ bytes
  pub ended : source'.ended ≡ true
  pub added : List Change
  pub adds : AddsAll bytes pending added
  pub all : published' ≡ published ++ added

-- a read failed, or this number of reads did not reach the end
abbrev pub CannotRead : Told → Told → ℕ → Type 0
CannotRead source source' reads = (source'.failed ≡ true) ⊎ ((source'.reads ≡ source.reads + reads) × (source'.ended ≡ false))

-- the reason why the bytes of a users file are not there: no memory for the read ones, or reads that stopped before the
-- end
abbrev pub ReadFails : Told → Told → ℕ → LoadFault → Type 0
ReadFails source source' reads load.Memory = (bytes : List ℕ) × (source'.bytes ≡ source.bytes ++ bytes)
ReadFails source source' reads load.Read = CannotRead source source' reads
ReadFails source source' reads (load.Line number fault) = ⊥
ReadFails source source' reads (load.Unended number) = ⊥

-- the meaning of a fault for a users file of which at most this number of reads were made, and for the changes pending since
abbrev pub LoadFails : Told → Told → ℕ → List Change → List Change → LoadFault → Type 0
LoadFails source source' reads before after (load.Line number fault) =
    (bytes : List ℕ) × (source'.bytes ≡ source.bytes ++ bytes) × (source'.ended ≡ true) × StopsAt bytes number fault before after
LoadFails source source' reads before after (load.Unended number) =
    (bytes : List ℕ) × (source'.bytes ≡ source.bytes ++ bytes) × (source'.ended ≡ true) × StopsShort bytes number before after
LoadFails source source' reads before after load.Read = CannotRead source source' reads × (after ≡ before)
LoadFails source source' reads before after load.Memory =
    (bytes : List ℕ) × (source'.bytes ≡ source.bytes ++ bytes) × AddsFirst bytes before after

-- the fault of a line of a users file, in whole words and by its word
abbrev pub users_trouble : CommandFault → List ℕ
users_trouble commands.Long = codes "it has more than 200 bytes: LONG"
users_trouble commands.Bytes = codes "it has a byte that is no printable ASCII character: BYTES"
users_trouble commands.Fields = codes "it has an empty field, or too few or too many: FIELDS"
users_trouble commands.Word = codes "it begins with none of ENROL, SUSPEND and REMOVE: WORD"
users_trouble commands.Role = codes "its role is none of the five: ROLE"
users_trouble commands.User = codes "its user is no name: NAME"
users_trouble commands.Authorisation = codes "its authorisation is no name: NAME"
users_trouble commands.Premises = codes "its premises are no name: NAME"
users_trouble commands.Until = codes "its last day is no date YYMMDD: UNTIL"
users_trouble commands.Codes = codes "its products are no list of product codes and company prefixes: CODES"
