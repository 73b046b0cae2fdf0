-- Lines that are made of plain fields.
use Rattle.std.proofs.Common.{◌≡◌, ◌≤◌, ◌+◌, ◌*◌, ◌&&◌, ◌||◌, ◌==◌, not, cond, ℕ, true, false, nat_lt, Option, Some, List, [], ◌∷◌, length, refl, ap, ◌∙◌, lit≤, arith, length-append}
use Rattle.std.specs.List.{list_all, list_any, AllByRecursion}
use Rattle.std.proofs.lemmas.Bool.{and_parts}
use Rattle.std.proofs.lemmas.Bool.Decides.{nat_tests}
use Rattle.std.proofs.lemmas.List.Elements.{All-from_recursion}
use Rattle.std.proofs.lemmas.List.Folds.{list_all-append}
use Rattle.std.proofs.lemmas.List.Splits.{slice_split_at, slice_split_none}
use Rattle.nmvs_identifier.proofs.PlainTexts.{is_plain, IsPlain, all_weaker}
use Rattle.nmvs_messages.specs.Fields.{is_printable, is_space, is_empty, fields_in, line_of_fields, line_fault}

not_space : (b : ℕ) → is_plain b ≡ true → is_space b ≡ false
not_space b e = grind (arith, nat_tests)

pub plain_printable : (b : ℕ) → is_plain b ≡ true → is_printable b ≡ true
plain_printable b e = grind (arith, nat_tests)

not_empty : (n : ℕ) → 1 ≤ n → (n == 0) ≡ false
not_empty n some = grind (arith, nat_tests)

pub no_space : (t : List ℕ) → list_all is_plain t ≡ true → AllByRecursion (λ b. is_space b ≡ false) t
no_space [] e = tt
no_space (b ∷ bs) e = let parts = and_parts (is_plain b) (list_all is_plain bs) e in (not_space b parts.0, no_space bs parts.1)

all_printable : (t : List ℕ) → list_all is_plain t ≡ true → list_all is_printable t ≡ true
all_printable t e = all_weaker is_plain is_printable plain_printable t e

-- a text of plain characters
abbrev pub IsWord : List ℕ → Type 0
IsWord t = (1 ≤ length t) × (list_all is_plain t ≡ true)

words : (fs : List (List ℕ)) → AllByRecursion IsPlain fs → AllByRecursion IsWord fs
words [] plain = tt
words (f ∷ fs) plain = ((plain.0.0, plain.0.2), words fs plain.1)

-- the fields of a line that is made of plain fields
fields_in-line_of_fields : (fs : List (List ℕ)) → 1 ≤ length fs → AllByRecursion IsWord fs → fields_in (line_of_fields fs) ≡ fs
fields_in-line_of_fields [] some plain = absurd (omega arith)
fields_in-line_of_fields (f ∷ []) some plain = slice_split_none is_space f (All-from_recursion _ f (no_space f plain.0.1))
fields_in-line_of_fields (f ∷ g ∷ fs) some plain =
    slice_split_at is_space f 32 (line_of_fields (g ∷ fs)) (All-from_recursion _ f (no_space f plain.0.1)) refl
    ∙ ap (λ (rest : List (List ℕ)). f ∷ rest) (fields_in-line_of_fields (g ∷ fs) (omega arith) plain.1)

none_empty : (fs : List (List ℕ)) → AllByRecursion IsWord fs → list_any is_empty fs ≡ false
none_empty [] plain = refl
none_empty (f ∷ fs) plain = λ i. not_empty (length f) plain.0.0 i || none_empty fs plain.1 i

printable-line_of_fields : (fs : List (List ℕ)) → AllByRecursion IsWord fs → list_all is_printable (line_of_fields fs) ≡ true
printable-line_of_fields [] plain = refl
printable-line_of_fields (f ∷ []) plain = all_printable f plain.0.1
printable-line_of_fields (f ∷ g ∷ fs) plain =
    list_all-append is_printable f (32 ∷ line_of_fields (g ∷ fs))
    ∙ (λ i. all_printable f plain.0.1 i && printable-line_of_fields (g ∷ fs) plain.1 i)

length-line_of_fields : (fs : List (List ℕ)) → AllByRecursion IsPlain fs → length (line_of_fields fs) ≤ 21 * length fs
length-line_of_fields [] plain = lit≤ tt
length-line_of_fields (f ∷ []) plain = let short = plain.0.1 in omega (arith, short)
length-line_of_fields (f ∷ g ∷ fs) plain =
    let short = plain.0.1 in
    let rest = length-line_of_fields (g ∷ fs) plain.1 in
    let whole = length-append f (32 ∷ line_of_fields (g ∷ fs)) in
    omega (arith, short, rest, whole)

pub not_long : (n : ℕ) → n ≤ 200 → nat_lt 200 n ≡ false
not_long n short = grind (arith, nat_tests)

-- a line of one to nine plain fields is short, printable, and has these fields, none of them empty
pub record IsPlainLine (fs : List (List ℕ)) : Type 0 where
  pub short : length (line_of_fields fs) ≤ 200
  pub bound : length (line_of_fields fs) ≤ 21 * length fs
  pub printable : list_all is_printable (line_of_fields fs) ≡ true
  pub fields : fields_in (line_of_fields fs) ≡ fs
  pub filled : list_any is_empty (fields_in (line_of_fields fs)) ≡ false

-- one to nine plain fields make such a line, if one that is longer than 20 bytes makes up for it by the others
pub word_line : (fs : List (List ℕ)) → 1 ≤ length fs → length fs ≤ 9 → length (line_of_fields fs) ≤ 21 * length fs → AllByRecursion IsWord fs → IsPlainLine fs
word_line fs some few bound plain =
    let own = fields_in-line_of_fields fs some plain in
    record {
      short = omega (arith, few, bound);
      bound = bound;
      printable = printable-line_of_fields fs plain;
      fields = own;
      filled = ap (list_any is_empty) own ∙ none_empty fs plain;
    }

-- one to nine plain fields make such a line
pub plain_line : (fs : List (List ℕ)) → 1 ≤ length fs → length fs ≤ 9 → AllByRecursion IsPlain fs → IsPlainLine fs
plain_line fs some few plain = word_line fs some few (length-line_of_fields fs plain) (words fs plain)

-- the bytes of a field and others, with one between each two
abbrev pub room : List ℕ → List (List ℕ) → ℕ
room f [] = length f
room f (g ∷ fs) = length f + 1 + room g fs

pub length-room : (f : List ℕ) (fs : List (List ℕ)) → length (line_of_fields (f ∷ fs)) ≡ room f fs
length-room f [] = refl
length-room f (g ∷ fs) = omega (arith, length-append f (32 ∷ line_of_fields (g ∷ fs)), length-room g fs)

-- it has no other fault than that of its fields
pub line_fault-plain : {F : Type 0} (long bytes empty : F) (of_fields : List (List ℕ) → Option F) (fs : List (List ℕ)) → IsPlainLine fs
    → line_fault long bytes empty of_fields (line_of_fields fs) ≡ of_fields fs
line_fault-plain long bytes empty of_fields fs plain =
    let short = not_long (length (line_of_fields fs)) plain.short in
    λ i. cond (short i) (Some long) (cond (not (plain.printable i)) (Some bytes) (cond (plain.filled i) (Some empty) (of_fields (plain.fields i))))
