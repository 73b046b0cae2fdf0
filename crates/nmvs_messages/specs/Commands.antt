-- The one line of each command, and the first fault of a command (own).
use Rattle.std.specs.Prelude.{ℕ, Bool, List, [], ◌∷◌, ◌++◌, ◌&&◌, not, codes, Option, Some, None, Result, Ok, Err, if◌then◌else◌, ◌≡◌, IsTrue}
use Rattle.std.specs.Option.{is_some}
use Rattle.std.specs.Str.{bytes_eq}
use Rattle.nmvs_identifier.specs.Codes.{Codes, is_codes}
use Rattle.nmvs_identifier.specs.Expiry.{Expiry, is_expiry}
use Rattle.nmvs_identifier.specs.Name.{is_name}
use Rattle.nmvs_rules.specs.declared.actor.Actor.{Actor}
use Rattle.nmvs_rules.specs.declared.enrolment.Enrolment.{Enrolment}
use Rattle.nmvs_rules.specs.Enrolments.{is_enrolment}
use Rattle.nmvs_words.specs.Words.{role_word, role_named}
use Rattle.nmvs_messages.specs.declared.command.Command.{Command}
use Rattle.nmvs_messages.specs.declared.command.Command.TheVariants.{Enrol, Suspend, Remove}
use Rattle.nmvs_messages.specs.declared.command.CommandFault.{CommandFault}
use Rattle.nmvs_messages.specs.declared.command.CommandFault.TheVariants as fault
use Rattle.nmvs_messages.specs.Fields.{line_of_fields, line_fault}

-- the fields of the last day of an enrolment, if it has one
abbrev pub until_fields : Option Expiry → List (List ℕ)
until_fields None = []
until_fields (Some last) = codes "UNTIL" ∷ last.bytes ∷ []

-- the fields of the products that it may upload, if it names some
abbrev pub codes_fields : Option Codes → List (List ℕ)
codes_fields None = []
codes_fields (Some products) = codes "CODES" ∷ products.bytes ∷ []

-- both
abbrev pub terms_fields : Option Expiry → Option Codes → List (List ℕ)
terms_fields until products = until_fields until ++ codes_fields products

-- the fields of an actor
abbrev pub actor_fields : Actor → List (List ℕ)
actor_fields a = role_word a.role ∷ a.authorisation.bytes ∷ a.premises.bytes ∷ []

-- the words of an enrolment, as they follow its user in a line
abbrev pub enrolment_words : Enrolment → List ℕ
enrolment_words e = line_of_fields (actor_fields e.actor ++ terms_fields e.until e.codes)

-- the fields of a command
abbrev pub command_fields : Command → List (List ℕ)
command_fields (Enrol user e) = codes "ENROL" ∷ user.bytes ∷ actor_fields e.actor ++ terms_fields e.until e.codes
command_fields (Suspend user) = codes "SUSPEND" ∷ user.bytes ∷ []
command_fields (Remove user) = codes "REMOVE" ∷ user.bytes ∷ []

-- the line of a command, without LF
abbrev pub command_line : Command → List ℕ
command_line c = line_of_fields (command_fields c)

-- whether a text is the word of a role
unfoldable pub is_role : List ℕ → Bool
is_role word = is_some (role_named word)

-- the first fault of an enrolment's products with these texts, the last of its line
abbrev pub codes_fault : List (List ℕ) → Option CommandFault
codes_fault [] = None
codes_fault (word ∷ text ∷ []) =
    if not (bytes_eq word (codes "CODES")) then Some fault.Fields
    else if is_codes text then None
    else Some fault.Codes
codes_fault _ = Some fault.Fields

-- the first fault of its last day and products with these texts
abbrev pub terms_fault : List (List ℕ) → Option CommandFault
terms_fault (word ∷ text ∷ rest) =
    if not (bytes_eq word (codes "UNTIL")) then codes_fault (word ∷ text ∷ rest)
    else if is_expiry text then codes_fault rest
    else Some fault.Until
terms_fault texts = codes_fault texts

-- the first fault of an enrolment with these texts after its word
abbrev pub enrol_fault : List (List ℕ) → Option CommandFault
enrol_fault (user ∷ role ∷ authorisation ∷ premises ∷ terms) =
    if not (is_role role) then Some fault.Role
    else if not (is_name user) then Some fault.User
    else if not (is_name authorisation) then Some fault.Authorisation
    else if not (is_name premises) then Some fault.Premises
    else terms_fault terms
enrol_fault _ = Some fault.Fields

-- the first fault of a command that names a user alone, with these texts after its word
abbrev pub user_fault : List (List ℕ) → Option CommandFault
user_fault (user ∷ []) = if is_name user then None else Some fault.User
user_fault _ = Some fault.Fields

-- the first fault of these fields
abbrev pub fields_fault : List (List ℕ) → Option CommandFault
fields_fault [] = Some fault.Word
fields_fault (word ∷ texts) =
    if bytes_eq word (codes "ENROL") then enrol_fault texts
    else if bytes_eq word (codes "SUSPEND") then user_fault texts
    else if bytes_eq word (codes "REMOVE") then user_fault texts
    else Some fault.Word

-- the first fault of a command
unfoldable pub first_command_fault : List ℕ → Option CommandFault
first_command_fault x = line_fault fault.Long fault.Bytes fault.Fields fields_fault x

-- whether the texts of a command are in their grammars
abbrev pub is_command : Command → Bool
is_command (Enrol user enrolment) = is_name user.bytes && is_enrolment enrolment
is_command (Suspend user) = is_name user.bytes
is_command (Remove user) = is_name user.bytes

-- a line is read as the command whose line it is, else with its first fault
abbrev pub ReadsCommand : List ℕ → Result Command CommandFault → Type 0
ReadsCommand x (Ok c) = (x ≡ command_line c) × (first_command_fault x ≡ None) × IsTrue (is_command c)
ReadsCommand x (Err f) = first_command_fault x ≡ Some f

-- the line of each command is read as that command
abbrev pub EachCommandIsRead : Type 0
EachCommandIsRead = (c : Command) → IsTrue (is_command c) → ReadsCommand (command_line c) (Ok c)

-- different commands have different lines
abbrev pub OneCommandSpelling : Type 0
OneCommandSpelling = (c d : Command) → IsTrue (is_command c) → IsTrue (is_command d) → command_line c ≡ command_line d → c ≡ d
