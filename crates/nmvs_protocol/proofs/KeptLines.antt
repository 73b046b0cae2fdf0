-- The kept part of a line is enough to read it.
use Rattle.std.proofs.Common.{◌≡◌, ◌<◌, List, ℕ, length, Option, Some, None, Result, Ok, Err, refl, sym, ◌∙◌, subst, inl, inr, arith}
use Rattle.std.proofs.lemmas.List.{take_all, length-take-le}
use Rattle.std.proofs.lemmas.Bool.{lt-ltb, cases_lt}
use Rattle.nmvs_identifier.specs.Tag.{Tag}
use Rattle.nmvs_messages.specs.declared.ask.Line.{Line}
use Rattle.nmvs_messages.specs.declared.ask.Unread.{Unread}
use Rattle.nmvs_messages.specs.declared.ask.LineFault.TheVariants as faults
use Rattle.nmvs_messages.specs.PendingLines.{kept_part}
use Rattle.nmvs_protocol.specs.Lines.{fault_behind, first_fault, ReadsLine}
use Rattle.nmvs_protocol.specs.Tags.{tag_of}
use Rattle.nmvs_protocol.proofs.TagLemmas.{tag_kept}

long_behind : (g : Option Tag) (x : List ℕ) → 200 < length x → fault_behind g x ≡ Some faults.Long
long_behind None x long = rw (lt-ltb 200 (length x) long) refl
long_behind (Some g) x long = rw (lt-ltb 200 (length x) long) refl

long_fault : (x : List ℕ) → 200 < length x → first_fault x ≡ Some faults.Long
unfolding first_fault
long_fault x long = long_behind (tag_of x) x long

long_reads : (x y : List ℕ) (r : Result Line Unread) → 200 < length x → 200 < length y → tag_of x ≡ tag_of y → ReadsLine x r → ReadsLine y r
long_reads x y (Ok l) lx ly same h = let e = long_fault x lx in let no = h.1 in absurd (cc (e, no))
long_reads x y (Err unread) lx ly same h = (long_fault y ly ∙ sym (long_fault x lx) ∙ h.0, h.1 ∙ same)

-- the kept part of a line is read as the line is
pub kept_reads : (x : List ℕ) (r : Result Line Unread) → ReadsLine (kept_part x) r → ReadsLine x r
kept_reads x r h = elim (cases_lt 201 (length x)) [
  | inr short ↦ subst (λ (t : List ℕ). ReadsLine t r) (take_all 201 x short) h
  | inl long ↦ let n = length-take-le 201 x (omega arith) in long_reads (kept_part x) x r (omega arith) (omega arith) (tag_kept x) h
]

-- the line is read as its kept part is
pub reads_kept : (x : List ℕ) (r : Result Line Unread) → ReadsLine x r → ReadsLine (kept_part x) r
reads_kept x r h = elim (cases_lt 201 (length x)) [
  | inr short ↦ subst (λ (t : List ℕ). ReadsLine t r) (sym (take_all 201 x short)) h
  | inl long ↦ let n = length-take-le 201 x (omega arith) in long_reads x (kept_part x) r (omega arith) (omega arith) (sym (tag_kept x)) h
]
