-- The kept part of a line is enough to judge it.
use Rattle.std.proofs.Common.{◌≡◌, ◌<◌, ◌+◌, ◌++◌, ◌∷◌, ◌==◌, [], true, List, ℕ, length, take, min, Some, Result, Ok, Err, refl, sym, ap, ◌∙◌, subst, inl, inr, arith}
use Rattle.std.proofs.lemmas.List.{take_at, take_all, take_min, take-append-le, length-take, length-take-le}
use Rattle.std.proofs.Math.Seq.{take-append-add}
use Rattle.std.proofs.lemmas.Bool.{lt-ltb, cases_lt, ne_eqb}
use Rattle.nmvs_messages.specs.declared.command.Command.{Command}
use Rattle.nmvs_messages.specs.declared.command.CommandFault.{CommandFault}
use Rattle.nmvs_messages.specs.declared.command.CommandFault.TheVariants as commands
use Rattle.nmvs_messages.specs.Commands.{first_command_fault, ReadsCommand}
use Rattle.nmvs_messages.specs.PendingLines.{kept_part}

long_command_fault : (x : List ℕ) → 200 < length x → first_command_fault x ≡ Some commands.Long
unfolding first_command_fault
long_command_fault x long = rw (lt-ltb 200 (length x) long) refl

long_reads_command : (x y : List ℕ) (r : Result Command CommandFault) → 200 < length x → 200 < length y → ReadsCommand x r → ReadsCommand y r
long_reads_command x y (Ok c) lx ly h = let e = long_command_fault x lx in let no = h.1 in absurd (cc (e, no))
long_reads_command x y (Err fault) lx ly h = long_command_fault y ly ∙ sym (long_command_fault x lx) ∙ h

-- the kept part of a command is read as the command is
pub kept_reads_command : (x : List ℕ) (r : Result Command CommandFault) → ReadsCommand (kept_part x) r → ReadsCommand x r
kept_reads_command x r h = elim (cases_lt 201 (length x)) [
  | inr short ↦ subst (λ (t : List ℕ). ReadsCommand t r) (take_all 201 x short) h
  | inl long ↦ let n = length-take-le 201 x (omega arith) in long_reads_command (kept_part x) x r (omega arith) (omega arith) h
]

-- more bytes after the kept part
pub kept_more : (x y : List ℕ) → kept_part (kept_part x ++ y) ≡ kept_part (x ++ y)
kept_more x y = elim (cases_lt 201 (length x)) [
  | inr short ↦ ap (λ (t : List ℕ). kept_part (t ++ y)) (take_all 201 x short)
  | inl long ↦ take_at (kept_part x) y 201 (length-take-le 201 x (omega arith)) ∙ sym (take-append-le 201 x y (omega arith))
]

-- the kept part of the kept part
pub kept_twice : (x : List ℕ) → kept_part (kept_part x) ≡ kept_part x
kept_twice x = let n = length-take 201 x in take_all 201 (kept_part x) (omega arith)

-- as many more bytes as there is room for
pub kept_filled : (x y : List ℕ) (room : ℕ) → room + length x ≡ 201 → x ++ take (min room (length y)) y ≡ kept_part (x ++ y)
kept_filled x y room whole =
    let n : length x + room ≡ 201 = omega arith in
    ap (λ (t : List ℕ). x ++ t) (take_min room y) ∙ sym (take-append-add x y room) ∙ ap (λ (k : ℕ). take k (x ++ y)) n

-- a line without a kept byte was not begun
pub kept_begun : (line begun tail : List ℕ) → (length line == 0) ≡ true → line ≡ kept_part begun → kept_part tail ≡ kept_part (begun ++ tail)
kept_begun [] begun tail none is = ap (λ (t : List ℕ). kept_part (t ++ tail)) is ∙ kept_more begun tail
kept_begun (b ∷ line) begun tail none is = let some = ne_eqb (length (b ∷ line)) 0 (λ z. absurd (omega (arith, z))) in absurd (cc (none, some))
