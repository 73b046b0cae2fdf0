-- The lines of a users file that take effect when it is taken anew (own).
use Rattle.std.specs.Prelude.{◌≡◌, ℕ, Bool, true, false, not, cond, List, [], ◌∷◌, filter}
use Rattle.nmvs_directory.specs.Known.{known}
use Rattle.nmvs_directory.specs.declared.change.Change.{Change}
use Rattle.nmvs_directory.specs.declared.look.Look.{Look}
use Rattle.nmvs_directory.specs.declared.look.Look.TheVariants as look
use Rattle.nmvs_messages.specs.declared.command.Command.{Command}
use Rattle.nmvs_messages.specs.declared.command.Command.TheVariants.{Enrol, Suspend, Remove}
use Rattle.nmvs_stream.specs.InputLines.{input_lines, unfinished_line}
use Rattle.nmvs_operator.specs.Users.{AreLinesOf}

-- whether a user about whom this is the answer is suspended: the last command that names it is SUSPEND
abbrev pub is_suspension : Look → Bool
is_suspension look.Suspended = true
is_suspension _ = false

-- whether a command of the users file takes effect after these changes: each with ALL, else each but the enrolment of a
-- suspended user
abbrev pub takes_effect : Bool → List Change → Command → Bool
takes_effect true published command = true
takes_effect false published (Enrol user enrolment) = not (is_suspension (known published user))
takes_effect false published (Suspend user) = true
takes_effect false published (Remove user) = true

-- whether a line of a users file takes effect after these changes. A command's line does if the command does, and a
-- blank line or comment does.
pub record LineTakesEffect (all : Bool) (published : List Change) (line : List ℕ) (takes : Bool) : Type 0 where
  pub commands : List Command
  pub of_line : AreLinesOf (line ∷ []) commands
  pub effect : filter (takes_effect all published) commands ≡ cond takes commands []

-- the second bytes are lines of a users file, the first: those of its commands that take effect, in their order
pub record TakesLines (all : Bool) (published : List Change) (file bytes : List ℕ) : Type 0 where
  pub commands : List Command
  pub of_file : AreLinesOf (input_lines file) commands
  pub whole_file : unfinished_line file ≡ []
  pub taken : AreLinesOf (input_lines bytes) (filter (takes_effect all published) commands)
  pub whole : unfinished_line bytes ≡ []
