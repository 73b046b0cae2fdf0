-- How a users file is gone through, line by line.
use Rattle.std.proofs.Common.{◌≡◌, ◌∙◌, ◌++◌, ◌∷◌, ◌+◌, ◌<◌, ◌⊎◌, [], inl, inr, refl, sym, ap, arith, ℕ, List, length, map, Some, Result, Ok, Err, true, false}
use Rattle.std.specs.Prelude.{IsTrue, MatchResult, IfOk}
use Rattle.std.proofs.lemmas.List.{append-nil, append_assoc, length-append, map-append}
use Rattle.std.proofs.lemmas.List.Elements.{All-append, All-cons, All-nil, filter-append}
use Rattle.nmvs_directory.specs.declared.change.Change.{Change}
use Rattle.nmvs_messages.specs.Commands.{command_line, first_command_fault, is_command, ReadsCommand}
use Rattle.nmvs_stream.specs.InputLines.{input_lines, unfinished_line}
use Rattle.nmvs_messages.specs.declared.command.Command.{Command}
use Rattle.nmvs_messages.specs.declared.command.CommandFault.{CommandFault}
use Rattle.nmvs_stream.specs.Source.{Told}
use Rattle.nmvs_operator.specs.Users.{change_of, says, AreLinesOf, Adds, AddsAll, AddsFirst, StopsShort, Tells, ReadFails, LoadFails}
use Rattle.nmvs_operator.specs.declared.faults.LoadFault.{LoadFault}
use Rattle.nmvs_operator.specs.declared.faults.LoadFault.TheVariants as load

-- these lines, which are those of commands whose changes were added, are the first of these bytes; the rest is after
-- them, and the line of this number comes next
pub record Added (bytes rest : List ℕ) (number : ℕ) (before now : List Change) : Type 0 where
  pub seen : List (List ℕ)
  pub lines : input_lines bytes ≡ seen ++ input_lines rest
  pub left : unfinished_line bytes ≡ unfinished_line rest
  pub count : number ≡ length seen + 1
  pub commands : List Command
  pub file : AreLinesOf seen commands
  pub changes : Adds commands before now

-- lines of commands, and more of them
pub lines_more : (xs ys : List (List ℕ)) (commands more : List Command) → AreLinesOf xs commands → AreLinesOf ys more → AreLinesOf (xs ++ ys) (commands ++ more)
lines_more xs ys commands more h k = record {
  valid = All-append (λ c. IsTrue (is_command c)) commands more h.valid k.valid;
  these = filter-append says xs ys ∙ (λ i. h.these i ++ k.these i) ∙ sym (map-append command_line commands more);
}

-- a line that says nothing
pub says_nothing : (line : List ℕ) (before : List Change) → says line ≡ false → (commands : List Command) × AreLinesOf (line ∷ []) commands × Adds commands before before
says_nothing line before silent = ([], record { valid = All-nil _; these = rw silent refl }, sym (append-nil before))

-- a line that is a command
pub says_command : (line : List ℕ) (c : Command) (before after : List Change) → says line ≡ true → ReadsCommand line (Ok c) → after ≡ before ++ change_of c ∷ []
    → (commands : List Command) × AreLinesOf (line ∷ []) commands × Adds commands before after
says_command line c before after it_says read added = (
  c ∷ [],
  record { valid = All-cons (λ c. IsTrue (is_command c)) c [] read.2 (All-nil _); these = rw it_says (ap (λ (l : List ℕ). l ∷ []) read.0) },
  added,
)

no_lines : AreLinesOf [] []
no_lines = record { valid = All-nil _; these = refl }

-- at the start nothing is added
pub added_none : (bytes : List ℕ) (before : List Change) → Added bytes bytes 1 before before
added_none bytes before =
    record { seen = []; lines = refl; left = refl; count = refl; commands = []; file = no_lines; changes = sym (append-nil before) }

-- the lines of a file up to the line that comes next
lines_to : {bytes rest : List ℕ} {number : ℕ} {before now : List Change} (line behind : List ℕ) (p : Added bytes rest number before now)
    → input_lines rest ≡ line ∷ input_lines behind → input_lines bytes ≡ p.seen ++ line ∷ input_lines behind
lines_to line behind p cut = p.lines ∙ ap (λ (t : List (List ℕ)). p.seen ++ t) cut

-- one line more
pub added_more : {bytes rest : List ℕ} {number : ℕ} {before now : List Change} (line behind : List ℕ) (now' : List Change) (more : List Command)
    → Added bytes rest number before now → input_lines rest ≡ line ∷ input_lines behind → unfinished_line rest ≡ unfinished_line behind
    → AreLinesOf (line ∷ []) more → Adds more now now' → Added bytes behind (number + 1) before now'
added_more {before = before} line behind now' more p cut left is adds = record {
  seen = p.seen ++ line ∷ [];
  lines = lines_to line behind p cut ∙ sym (append_assoc p.seen (line ∷ []) (input_lines behind));
  left = p.left ∙ left;
  count = omega (arith, p.count, length-append p.seen (line ∷ []));
  commands = p.commands ++ more;
  file = lines_more p.seen (line ∷ []) p.commands more p.file is;
  changes = adds ∙ ap (λ (t : List Change). t ++ map change_of more) p.changes
      ∙ append_assoc before (map change_of p.commands) (map change_of more)
      ∙ ap (λ (t : List Change). before ++ t) (sym (map-append change_of p.commands more));
}

-- if the rest has no whole line, the lines of the file are those that were gone through
lines_all : {bytes rest : List ℕ} {number : ℕ} {before now : List Change} (p : Added bytes rest number before now)
    → input_lines rest ≡ [] → input_lines bytes ≡ p.seen
lines_all p none = p.lines ∙ ap (λ (t : List (List ℕ)). p.seen ++ t) none ∙ append-nil p.seen

-- no byte is left
pub adds_all : {bytes rest : List ℕ} {number : ℕ} {before now : List Change} → Added bytes rest number before now
    → input_lines rest ≡ [] → unfinished_line rest ≡ rest → rest ≡ [] → AddsAll bytes before now
adds_all p none whole empty =
    record { commands = p.commands; file = rw (lines_all p none) p.file; whole = p.left ∙ whole ∙ empty; changes = p.changes }

-- bytes without LF are left
pub stops_short : {bytes rest : List ℕ} {number : ℕ} {before now : List Change} → Added bytes rest number before now
    → input_lines rest ≡ [] → unfinished_line rest ≡ rest → 0 < length rest → StopsShort bytes number before now
stops_short p none whole some =
    let lines = lines_all p none in record {
      count = p.count ∙ ap (λ (t : List (List ℕ)). length t + 1) (sym lines);
      some = rw (p.left ∙ whole) some;
      commands = p.commands;
      file = rw lines p.file;
      changes = p.changes;
    }

-- nothing of a file is added
pub adds_none : (bytes : List ℕ) (before after : List Change) → after ≡ before → AddsFirst bytes before after
adds_none bytes before after same =
    record { first = []; rest = input_lines bytes; these = refl; commands = []; file = no_lines; changes = same ∙ sym (append-nil before) }

-- the changes of all its lines are those of its first ones
pub adds_first-adds : {bytes : List ℕ} {before now : List Change} (after : List Change) → AddsAll bytes before now → after ≡ now → AddsFirst bytes before after
adds_first-adds {bytes} after p same = record {
  first = input_lines bytes;
  rest = [];
  these = sym (append-nil (input_lines bytes));
  commands = p.commands;
  file = p.file;
  changes = same ∙ p.changes;
}

-- the meaning of the fault of a line for the file
pub tells : {bytes rest : List ℕ} {number : ℕ} {before now : List Change} (line behind : List ℕ) (after : List Change)
    → Added bytes rest number before now → input_lines rest ≡ line ∷ input_lines behind → after ≡ now → (f : LoadFault)
    → (f ≡ load.Memory) ⊎ ((fault : CommandFault) × (f ≡ load.Line number fault) × (says line ≡ true) × (first_command_fault line ≡ Some fault))
    → Tells bytes before after f
tells line behind after p cut same f auto = elim auto [
  | inl e ↦ rw e (record {
    first = p.seen;
    rest = line ∷ input_lines behind;
    these = lines_to line behind p cut;
    commands = p.commands;
    file = p.file;
    changes = same ∙ p.changes;
  })
  | inr w ↦ rw w.1 (record {
    first = p.seen;
    line = line;
    rest = input_lines behind;
    these = lines_to line behind p cut;
    count = p.count;
    says_it = w.2;
    judged = w.3;
    commands = p.commands;
    file = p.file;
    changes = same ∙ p.changes;
  })
]

-- a file that was not read adds nothing
pub not_read : (source source' : Told) (reads : ℕ) (before after : List Change) (f : LoadFault) → after ≡ before
    → ReadFails source source' reads f → LoadFails source source' reads before after f
not_read source source' reads before after load.Memory same h = (h.0, h.1, adds_none h.0 before after same)
not_read source source' reads before after load.Read same h = (h, same)
not_read source source' reads before after (load.Line number fault) same h = absurd h
not_read source source' reads before after (load.Unended number) same h = absurd h

-- a file that was read has the fault of its lines
pub not_added : (source source' : Told) (reads : ℕ) (bytes : List ℕ) (before after : List Change) (f : LoadFault)
    → source'.bytes ≡ source.bytes ++ bytes → source'.ended ≡ true → Tells bytes before after f → LoadFails source source' reads before after f
not_added source source' reads bytes before after load.Memory read ended h = (bytes, read, h)
not_added source source' reads bytes before after load.Read read ended h = absurd h
not_added source source' reads bytes before after (load.Line number fault) read ended h = (bytes, read, ended, h)
not_added source source' reads bytes before after (load.Unended number) read ended h = (bytes, read, ended, h)

-- at a fault the changes of the first lines of a file were added
pub tells_first : (bytes : List ℕ) (before after : List Change) (f : LoadFault) → Tells bytes before after f → AddsFirst bytes before after
tells_first bytes before after (load.Line number fault) h =
    record { first = h.first; rest = h.line ∷ h.rest; these = h.these; commands = h.commands; file = h.file; changes = h.changes }
tells_first bytes before after (load.Unended number) h =
    record { first = input_lines bytes; rest = []; these = sym (append-nil (input_lines bytes)); commands = h.commands; file = h.file; changes = h.changes }
tells_first bytes before after load.Read h = absurd h
tells_first bytes before after load.Memory h = h

-- the changes of a file that were added are published, or all of them are pending
pub published_or_pending : {N E : Type 0} (r : Result N E) (told : N → List Change) (bytes : List ℕ) (before added after shown shown' : List Change) → AddsAll bytes before added
    → MatchResult r (λ _. shown' ≡ shown ++ added) (λ _. shown' ≡ shown) → MatchResult r (λ _. after ≡ []) (λ _. after ≡ added)
    → IfOk r (λ n. told n ≡ shown')
    → MatchResult r (λ n. (x : List Change) × AddsAll bytes before x × (shown' ≡ shown ++ x) × (after ≡ []) × (told n ≡ shown')) (λ _. (shown' ≡ shown) × AddsFirst bytes before after)
published_or_pending (Ok n) told bytes before added after shown shown' adds all none tells = (added, adds, all, none, tells)
published_or_pending (Err e) told bytes before added after shown shown' adds all none tells = (all, adds_first-adds after adds none)
