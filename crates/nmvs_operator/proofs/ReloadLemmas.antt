-- The lines of a users file that take effect.
use Rattle.std.proofs.Common.{◌≡◌, ◌∙◌, ◌++◌, ◌∷◌, ◌+◌, [], refl, sym, ap, ℕ, Bool, cond, List, length, map, Some, None, Option, Ok, subst, true, false}
use Rattle.std.specs.Prelude.{IsTrue, filter, All}
use Rattle.std.proofs.lemmas.List.{append-nil, append_assoc}
use Rattle.std.proofs.lemmas.List.Elements.{All-cons, All-head, All-nil, All-tail, filter-append}
use Rattle.nmvs_directory.specs.declared.change.Change.{Change}
use Rattle.nmvs_messages.specs.Commands.{command_line, first_command_fault, is_command, ReadsCommand}
use Rattle.nmvs_messages.proofs.CommandLemmas.{each_is_read}
use Rattle.nmvs_messages.specs.declared.command.Command.{Command}
use Rattle.nmvs_messages.specs.declared.command.CommandFault.{CommandFault}
use Rattle.nmvs_stream.specs.InputLines.{HasNoLf, lines_after, rest_after, input_lines, unfinished_line}
use Rattle.nmvs_stream.proofs.LinesOfPieces.{lines_after-append, rest_after-append, line_cut, left_cut, no_line}
use Rattle.nmvs_stream.specs.Delivery.{Writes, Delivers, DeliversPart}
use Rattle.nmvs_stream.specs.Sink.{Taken}
use Rattle.nmvs_operator.specs.declared.faults.LoadFault.{LoadFault}
use Rattle.nmvs_operator.specs.Users.{says, AreLinesOf}
use Rattle.nmvs_operator.specs.UsersFaults.{line_faults, lines_faults, end_faults, faults_from, fault_list}
use Rattle.nmvs_operator.specs.Reload.{takes_effect, LineTakesEffect, TakesLines}
use Rattle.nmvs_operator.proofs.UsersFile.{lines_more}
use Rattle.nmvs_operator.proofs.FaultLemmas.{faults_from-line, faults_from-end}

-- a line that says nothing takes effect
pub silent_takes : (all : Bool) (published : List Change) (line : List ℕ) → says line ≡ false → LineTakesEffect all published line true
silent_takes all published line silent =
    record { commands = []; of_line = record { valid = All-nil _; these = rw silent refl }; effect = refl }

-- the line of a command takes effect where that does
pub command_takes : (all : Bool) (published : List Change) (line : List ℕ) (c : Command) (takes : Bool) → says line ≡ true → ReadsCommand line (Ok c)
    → takes ≡ takes_effect all published c → LineTakesEffect all published line takes
command_takes all published line c takes it_says read is = record {
  commands = c ∷ [];
  of_line = record { valid = All-cons (λ c. IsTrue (is_command c)) c [] read.2 (All-nil _); these = rw it_says (ap (λ (l : List ℕ). l ∷ []) read.0) };
  effect = ap (λ (b : Bool). cond b (c ∷ []) []) (sym is);
}

-- of a line that has no fault
pub no_fault : (number : ℕ) (line : List ℕ) → line_faults number line ≡ [] → says line ≡ true → first_command_fault line ≡ None
no_fault number line none it_says = by (first_command_fault line) (subst (λ (b : Bool). cond b (fault_list number line (first_command_fault line)) [] ≡ []) it_says none)
  where
    by : (f : Option CommandFault) → fault_list number line f ≡ [] → f ≡ None
    by None h = refl
    by (Some f) h = absurd cc

-- joined lists that are empty
both_empty : {X : Type 0} (xs ys : List X) → xs ++ ys ≡ [] → (xs ≡ []) × (ys ≡ [])
both_empty [] ys h = (refl, h)
both_empty (x ∷ xs) ys h = absurd cc

-- these lines were gone through, and those that take effect are taken; the rest is after them, and has no fault
pub record TakenTo (all : Bool) (published : List Change) (file rest lines : List ℕ) : Type 0 where
  pub seen : List (List ℕ)
  pub these : input_lines file ≡ seen ++ input_lines rest
  pub left : unfinished_line file ≡ unfinished_line rest
  pub commands : List Command
  pub of_seen : AreLinesOf seen commands
  pub taken : AreLinesOf (input_lines lines) (filter (takes_effect all published) commands)
  pub whole : unfinished_line lines ≡ []
  pub number : ℕ
  pub faultless : faults_from number rest ≡ []

-- before the first line
pub taken_none : (all : Bool) (published : List Change) (file : List ℕ) → faults_from 1 file ≡ [] → TakenTo all published file file []
unfolding lines_after rest_after
taken_none all published file faultless = record {
  seen = [];
  these = refl;
  left = refl;
  commands = [];
  of_seen = record { valid = All-nil _; these = refl };
  taken = record { valid = All-nil _; these = refl };
  whole = refl;
  number = 1;
  faultless = faultless;
}

-- the faults of the next line, and of those behind it
pub next_faults : {all : Bool} {published : List Change} {file rest lines : List ℕ} (line behind : List ℕ) (p : TakenTo all published file rest lines)
    → rest ≡ line ++ 10 ∷ behind → HasNoLf line → (line_faults p.number line ≡ []) × (faults_from (p.number + 1) behind ≡ [])
next_faults line behind p cut one =
    both_empty (line_faults p.number line) (faults_from (p.number + 1) behind) (sym (faults_from-line p.number _ line behind (line_cut [] line behind cut one) (left_cut [] line behind cut one)) ∙ p.faultless)

-- one line behind whole lines
pub line_behind : (lines line : List ℕ) → unfinished_line lines ≡ [] → HasNoLf line
    → (input_lines (lines ++ (line ++ 10 ∷ [])) ≡ input_lines lines ++ line ∷ []) × (unfinished_line (lines ++ (line ++ 10 ∷ [])) ≡ [])
unfolding lines_after rest_after
line_behind lines line whole one = (
  lines_after-append [] lines (line ++ 10 ∷ []) ∙ ap (λ (t : List ℕ). input_lines lines ++ lines_after t (line ++ 10 ∷ [])) whole
      ∙ ap (λ (t : List (List ℕ)). input_lines lines ++ t) (line_cut [] line [] refl one),
  rest_after-append [] lines (line ++ 10 ∷ []) ∙ ap (λ (t : List ℕ). rest_after t (line ++ 10 ∷ [])) whole ∙ left_cut [] line [] refl one,
)

-- one line more, which takes effect
pub taken_more : {all : Bool} {published : List Change} {file rest lines : List ℕ} (line behind lines' : List ℕ) (takes : Bool) → takes ≡ true
    → TakenTo all published file rest lines → rest ≡ line ++ 10 ∷ behind → HasNoLf line → LineTakesEffect all published line takes
    → lines' ≡ lines ++ (line ++ 10 ∷ []) → TakenTo all published file behind lines'
taken_more {all} {published} {lines = lines} line behind lines' takes it_takes p cut one effect adds =
    let p_effect = takes_effect all published in
    let longer = line_behind lines line p.whole one in
    let same : filter p_effect effect.commands ≡ effect.commands = effect.effect ∙ ap (λ (b : Bool). cond b effect.commands []) it_takes in
    let taken = lines_more (input_lines lines) (line ∷ []) (filter p_effect p.commands) effect.commands p.taken effect.of_line in record {
      seen = p.seen ++ line ∷ [];
      these = p.these ∙ ap (λ (t : List (List ℕ)). p.seen ++ t) (line_cut [] line behind cut one) ∙ sym (append_assoc p.seen (line ∷ []) (input_lines behind));
      left = p.left ∙ left_cut [] line behind cut one;
      commands = p.commands ++ effect.commands;
      of_seen = lines_more p.seen (line ∷ []) p.commands effect.commands p.of_seen effect.of_line;
      taken = rw (filter-append p_effect p.commands effect.commands, same, adds, longer.0) taken;
      whole = ap unfinished_line adds ∙ longer.1;
      number = p.number + 1;
      faultless = (next_faults line behind p cut one).1;
    }

-- one line more, which does not
pub skipped_more : {all : Bool} {published : List Change} {file rest lines : List ℕ} (line behind : List ℕ) (takes : Bool) → takes ≡ false
    → TakenTo all published file rest lines → rest ≡ line ++ 10 ∷ behind → HasNoLf line → LineTakesEffect all published line takes
    → TakenTo all published file behind lines
skipped_more {all} {published} line behind takes skips p cut one effect =
    let p_effect = takes_effect all published in
    let none : filter p_effect effect.commands ≡ [] = effect.effect ∙ ap (λ (b : Bool). cond b effect.commands []) skips in record {
      seen = p.seen ++ line ∷ [];
      these = p.these ∙ ap (λ (t : List (List ℕ)). p.seen ++ t) (line_cut [] line behind cut one) ∙ sym (append_assoc p.seen (line ∷ []) (input_lines behind));
      left = p.left ∙ left_cut [] line behind cut one;
      commands = p.commands ++ effect.commands;
      of_seen = lines_more p.seen (line ∷ []) p.commands effect.commands p.of_seen effect.of_line;
      taken = rw (filter-append p_effect p.commands effect.commands, none, append-nil (filter p_effect p.commands)) p.taken;
      whole = p.whole;
      number = p.number + 1;
      faultless = (next_faults line behind p cut one).1;
    }

-- no line is left
pub taken_all : {all : Bool} {published : List Change} {file rest lines : List ℕ} → TakenTo all published file rest lines → HasNoLf rest
    → TakesLines all published file lines
taken_all {rest = rest} p one =
    let none = no_line [] rest one in
    let empty = no_end p.number rest (sym (faults_from-end p.number rest none.0 none.1) ∙ p.faultless) in record {
      commands = p.commands;
      of_file = rw (p.these ∙ ap (λ (t : List (List ℕ)). p.seen ++ t) none.0 ∙ append-nil p.seen) p.of_seen;
      whole_file = p.left ∙ none.1 ∙ empty;
      taken = p.taken;
      whole = p.whole;
    }
  where
    no_end : (number : ℕ) (bytes : List ℕ) → end_faults number bytes ≡ [] → bytes ≡ []
    no_end number [] h = refl
    no_end number (b ∷ bs) h = absurd cc

-- the line of a command has no fault
clean_line : (number : ℕ) (line : List ℕ) (c : Command) → line ≡ command_line c → IsTrue (is_command c) → line_faults number line ≡ []
clean_line number line c is valid =
    let none : first_command_fault line ≡ None = ap first_command_fault is ∙ (each_is_read c valid).1 in
    by (says line) none
  where
    by : (b : Bool) → first_command_fault line ≡ None → cond b (fault_list number line (first_command_fault line)) [] ≡ []
    by true none = rw none refl
    by false none = refl

-- a line before lines that have no fault
clean_more : (number : ℕ) (line : List ℕ) (lines : List (List ℕ)) (b : Bool) (commands : List Command) → says line ≡ b → All (λ c. IsTrue (is_command c)) commands
    → cond b (line ∷ filter says lines) (filter says lines) ≡ map command_line commands
    → ((more : List Command) → AreLinesOf lines more → lines_faults (number + 1) lines ≡ []) → lines_faults number (line ∷ lines) ≡ []
clean_more number line lines false commands silent valid these later =
    let none : line_faults number line ≡ [] = rw silent refl in
    ap (λ (t : List (LoadFault × List ℕ)). t ++ lines_faults (number + 1) lines) none ∙ later commands (record { valid = valid; these = these })
clean_more number line lines true [] it_says valid these later = absurd cc
clean_more number line lines true (c ∷ commands) it_says valid these later =
    let first : line ≡ command_line c = cc these in
    let others : filter says lines ≡ map command_line commands = cc these in
    let none = clean_line number line c first (All-head (λ c. IsTrue (is_command c)) c commands valid) in
    ap (λ (t : List (LoadFault × List ℕ)). t ++ lines_faults (number + 1) lines) none
    ∙ later commands (record { valid = All-tail (λ c. IsTrue (is_command c)) c commands valid; these = others })

clean_lines : (number : ℕ) (lines : List (List ℕ)) (commands : List Command) → AreLinesOf lines commands → lines_faults number lines ≡ []
clean_lines number [] commands h = refl
clean_lines number (line ∷ lines) commands h = clean_more number line lines (says line) commands refl h.valid h.these (clean_lines (number + 1) lines)

-- the lines of a users file that take effect have no fault
pub taken_faultless : {all : Bool} {published : List Change} {file bytes : List ℕ} → TakesLines all published file bytes → faults_from 1 bytes ≡ []
taken_faultless {bytes = bytes} h =
    let lines = clean_lines 1 (input_lines bytes) _ h.taken in
    (λ i. lines i ++ end_faults (1 + length (input_lines bytes)) (h.whole i))

-- joined writes
pub writes_more : {old mid new : Taken} (x y : List ℕ) → Writes old mid x → Writes mid new y → Writes old new (x ++ y)
writes_more {old} {mid} {new} x y h k = record {
  bytes = k.bytes ∙ ap (λ (t : List ℕ). t ++ y) h.bytes ∙ append_assoc old.bytes x y;
  flushed = λ none. let both = both_empty x y none in k.flushed both.1 ∙ h.flushed both.0;
  failed = k.failed ∙ h.failed;
}

-- a write, and a delivery
pub delivers_more : {old mid new : Taken} (x y : List ℕ) → Writes old mid x → Delivers mid new y → Delivers old new (x ++ y)
delivers_more {old} {mid} {new} x y h k = record {
  bytes = k.bytes ∙ ap (λ (t : List ℕ). t ++ y) h.bytes ∙ append_assoc old.bytes x y;
  flushed = k.flushed;
  failed = k.failed ∙ h.failed;
}

-- a write, and a part
pub part_more : {old mid new : Taken} (x y : List ℕ) → Writes old mid x → DeliversPart mid new y → DeliversPart old new (x ++ y)
part_more {old} {mid} {new} x y h k = record {
  written = x ++ k.written;
  unwritten = k.unwritten;
  cut = ap (λ (t : List ℕ). x ++ t) k.cut ∙ sym (append_assoc x k.written k.unwritten);
  bytes = k.bytes ∙ ap (λ (t : List ℕ). t ++ k.written) h.bytes ∙ append_assoc old.bytes x k.written;
  flushed = λ none. let both = both_empty x k.written none in k.flushed both.1 ∙ h.flushed both.0;
  failed = k.failed;
}

-- a part of a text that goes on
pub part_of_more : {old new : Taken} (x y : List ℕ) → DeliversPart old new x → DeliversPart old new (x ++ y)
part_of_more x y k = record {
  written = k.written;
  unwritten = k.unwritten ++ y;
  cut = ap (λ (t : List ℕ). t ++ y) k.cut ∙ append_assoc k.written k.unwritten y;
  bytes = k.bytes;
  flushed = k.flushed;
  failed = k.failed;
}
