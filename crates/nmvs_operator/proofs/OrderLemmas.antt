-- The line of an order is read, and its kept part in the same way.
use Rattle.std.proofs.Common.{Bor, drop, ap, ◌-◌, ◌≡◌, ◌≢◌, ◌<◌, ◌≤◌, ℕ, Bool, true, false, cond, List, [], ◌∷◌, length, get_or, map, take, Some, Result, Ok, Err, refl, sym, ◌∙◌, subst, inl, inr, arith, lit≤, codes, decimal, ◌^◌}
use Rattle.std.specs.Prelude.{IfOk, IsTrue, nat_lt, ◌&&◌, find, None, Option, option_map}
use Rattle.std.specs.List.{list_all}
use Rattle.std.specs.Str.{bytes_eq}
use Rattle.std.specs.Str.Parse.{digits_value, ParsesUnsigned}
use Rattle.std.specs.Result.{result_err}
use Rattle.std.specs.Bool.{Decides}
use Rattle.std.proofs.lemmas.Bool.{lt-ltb, ltb-true, and_parts, false_from_ne_true, cases_lt}
use Rattle.std.proofs.lemmas.Fmt.{decimal_is_IsNumeral, parse-decimal}
use Rattle.std.proofs.lemmas.Slice.Eq.{bytes_eq-Decides}
use Rattle.std.proofs.lemmas.List.{take_all, length-take-le}
use Rattle.nmvs_messages.specs.declared.command.CommandFault.{CommandFault}
use Rattle.nmvs_messages.specs.declared.command.CommandFault.TheVariants as fault
use Rattle.nmvs_messages.specs.Commands.{fields_fault}
use Rattle.nmvs_messages.specs.Fields.{fields_in}
use Rattle.nmvs_messages.specs.PendingLines.{kept_part}
use Rattle.nmvs_messages.proofs.CommandLemmas as commands
use Rattle.nmvs_messages.proofs.CommandLemmas.{fields_fault-take}
use Rattle.nmvs_messages.proofs.FieldLemmas.{line_of_kept}
use Rattle.nmvs_operator.specs.declared.order.Order.{Order}
use Rattle.nmvs_operator.specs.declared.order.Order.TheVariants as orders
use Rattle.nmvs_operator.specs.declared.order.Fixed.{Fixed}
use Rattle.nmvs_operator.specs.declared.order.Fixed.TheVariants as fixed
use Rattle.nmvs_operator.specs.declared.order.Grammar.{Grammar}
use Rattle.nmvs_operator.specs.declared.order.Grammar.TheVariants.{Alone, Over, Reload, Path, Blocks, User}
use Rattle.nmvs_operator.specs.Orders.{Row, rows, grammar_of, fault_by, ReadsOrder, fixed_fields, order_fields, is_order, order_fault, reload_fault, over_fault, trim_fault, is_number, export_fault, alone_fault, first_order_fault}

few_words : (o : Fixed) → length (fixed_fields o) < 10
few_words fixed.Users = lit≤ tt
few_words _ = lit≤ tt

few_fields : (o : Order) → length (order_fields o) < 10
few_fields (orders.Change c) = commands.few_fields c
few_fields (orders.Reload false) = lit≤ tt
few_fields (orders.Reload true) = lit≤ tt
few_fields (orders.Export path) = lit≤ tt
few_fields (orders.Trim blocks) = lit≤ tt
few_fields (orders.Fixed order) = few_words order

-- a line whose fields are read as an order, or have this fault, is read so
pub reads_fields : (x : List ℕ) (fs : List (List ℕ)) (r : Result Order CommandFault) → fs ≡ take 10 (fields_in x)
    → IfOk r (λ o. order_fields o ≡ fs) → IfOk r (λ o. IsTrue (is_order o)) → result_err r ≡ first_order_fault x → ReadsOrder x r
reads_fields x fs (Ok o) kept same valid none = (line_of_kept x (order_fields o) (sym (same ∙ kept)) (few_fields o), sym none, valid)
reads_fields x fs (Err f) kept same valid told = sym told

export_fault-take : (texts : List (List ℕ)) → export_fault (take 9 texts) ≡ export_fault texts
export_fault-take [] = refl
export_fault-take (a ∷ []) = refl
export_fault-take (a ∷ b ∷ texts) = refl

alone_fault-take : (texts : List (List ℕ)) → alone_fault (take 9 texts) ≡ alone_fault texts
alone_fault-take [] = refl
alone_fault-take (a ∷ texts) = refl

reload_fault-take : (texts : List (List ℕ)) → reload_fault (take 9 texts) ≡ reload_fault texts
reload_fault-take [] = refl
reload_fault-take (a ∷ []) = refl
reload_fault-take (a ∷ b ∷ texts) = refl

over_fault-take : (texts : List (List ℕ)) → over_fault (take 9 texts) ≡ over_fault texts
over_fault-take [] = refl
over_fault-take (a ∷ []) = refl
over_fault-take (a ∷ b ∷ texts) = refl

trim_fault-take : (texts : List (List ℕ)) → trim_fault (take 9 texts) ≡ trim_fault texts
trim_fault-take [] = refl
trim_fault-take (a ∷ []) = refl
trim_fault-take (a ∷ b ∷ texts) = refl

fault_by-take : (g : Option Grammar) (word : List ℕ) (texts : List (List ℕ)) → fault_by g word (take 9 texts) ≡ fault_by g word texts
fault_by-take None word texts = refl
fault_by-take (Some (Alone order)) word texts = alone_fault-take texts
fault_by-take (Some (Over order)) word texts = over_fault-take texts
fault_by-take (Some Reload) word texts = reload_fault-take texts
fault_by-take (Some Path) word texts = export_fault-take texts
fault_by-take (Some Blocks) word texts = trim_fault-take texts
fault_by-take (Some User) word texts = fields_fault-take (word ∷ texts)

-- the first ten fields of a line decide their fault
pub order_fault-take : (fs : List (List ℕ)) → order_fault (take 10 fs) ≡ order_fault fs
order_fault-take [] = refl
order_fault-take (word ∷ texts) = fault_by-take (grammar_of word) word texts

-- whether these are the same fields
same_fields : List (List ℕ) → List (List ℕ) → Bool
same_fields [] [] = true
same_fields (x ∷ xs) (y ∷ ys) = bytes_eq x y && same_fields xs ys
same_fields _ _ = false

same_fields-true : (xs ys : List (List ℕ)) → same_fields xs ys ≡ true → xs ≡ ys
unfolding same_fields
same_fields-true [] [] same = refl
same_fields-true (x ∷ xs) (y ∷ ys) same =
    let both = and_parts (bytes_eq x y) (same_fields xs ys) same in
    let first = (bytes_eq-Decides x y).0 both.0 in
    let others = same_fields-true xs ys both.1 in
    (λ i. first i ∷ others i)
same_fields-true [] (y ∷ ys) same = absurd cc
same_fields-true (x ∷ xs) [] same = absurd cc

-- whether a row's word is that of the orders that are read by what follows it
fits : List ℕ → Grammar → Bool
fits word (Alone order) = same_fields (fixed_fields order) (word ∷ [])
fits word (Over order) = same_fields (fixed_fields order) (word ∷ codes "OVER" ∷ [])
fits word Reload = bytes_eq word (codes "RELOAD")
fits word Path = bytes_eq word (codes "EXPORT")
fits word Blocks = bytes_eq word (codes "TRIM")
fits word User = true

rows_fit : list_all (λ (row : Row). fits row.0 row.2) rows ≡ true
unfolding same_fields fits
rows_fit = refl

found_fits : (word : List ℕ) (g : Grammar) (rs : List Row) → list_all (λ (row : Row). fits row.0 row.2) rs ≡ true
    → option_map (λ (row : Row). row.2) (find (λ (row : Row). bytes_eq word row.0) rs) ≡ Some g → fits word g ≡ true
found_fits word g [] all is = absurd cc
found_fits word g (row ∷ rs) all is =
    let both = and_parts (fits row.0 row.2) (list_all (λ (row : Row). fits row.0 row.2) rs) all in
    by (bytes_eq word row.0) (bytes_eq-Decides word row.0) both.0 (found_fits word g rs both.1) is
  where
    by : (b : Bool) → Decides b (word ≡ row.0) → fits row.0 row.2 ≡ true
        → (option_map (λ (row : Row). row.2) (find (λ (row : Row). bytes_eq word row.0) rs) ≡ Some g → fits word g ≡ true)
        → option_map (λ (row : Row). row.2) (cond b (Some row) (find (λ (row : Row). bytes_eq word row.0) rs)) ≡ Some g → fits word g ≡ true
    by true d first others found =
        let same : row.2 ≡ g = cc found in
        let spelled = d.0 refl in
        (λ i. fits (spelled i) (sym same i)) ∙ first
    by false d first others found = others found

grammar_fits : (word : List ℕ) (g : Grammar) → grammar_of word ≡ Some g → fits word g ≡ true
unfolding grammar_of
grammar_fits word g is = found_fits word g rows rows_fit is

-- the order of a word that stands alone
pub alone_order : (word : List ℕ) (order : Fixed) → grammar_of word ≡ Some (Alone order) → fixed_fields order ≡ word ∷ []
unfolding fits
alone_order word order is = same_fields-true (fixed_fields order) (word ∷ []) (grammar_fits word (Alone order) is)

-- the order of a word that OVER follows
pub over_order : (word : List ℕ) (order : Fixed) → grammar_of word ≡ Some (Over order) → fixed_fields order ≡ word ∷ codes "OVER" ∷ []
unfolding fits
over_order word order is = same_fields-true (fixed_fields order) (word ∷ codes "OVER" ∷ []) (grammar_fits word (Over order) is)

-- the words of the other orders
pub reload_word : (word : List ℕ) → grammar_of word ≡ Some Reload → word ≡ codes "RELOAD"
unfolding fits
reload_word word is = (bytes_eq-Decides word (codes "RELOAD")).0 (grammar_fits word Reload is)

pub path_word : (word : List ℕ) → grammar_of word ≡ Some Path → word ≡ codes "EXPORT"
unfolding fits
path_word word is = (bytes_eq-Decides word (codes "EXPORT")).0 (grammar_fits word Path is)

pub blocks_word : (word : List ℕ) → grammar_of word ≡ Some Blocks → word ≡ codes "TRIM"
unfolding fits
blocks_word word is = (bytes_eq-Decides word (codes "TRIM")).0 (grammar_fits word Blocks is)

-- the fields of a word and of the texts after it
pub whole_fields : {B : Type 0} (now : B → List ℕ) (fields : List B) (d : B) → 1 ≤ length fields → (fs texts : List (List ℕ))
    → fs ≡ now (get_or fields 0 d) ∷ texts → map now (take (length fields - 1) (drop 1 fields)) ≡ texts → fs ≡ map now fields
whole_fields now [] d some fs texts is same = absurd (omega (arith, some))
whole_fields now (word ∷ others) d some fs texts is same =
    let whole : take (length (word ∷ others) - 1) others ≡ others = take_all _ others (omega arith) in
    is ∙ ap (λ (t : List (List ℕ)). now word ∷ t) (sym same ∙ ap (map now) whole)

pub word_fields : {B E : Type 0} (now : B → List ℕ) (fields : List B) (d : B) → 1 ≤ length fields → (word : List ℕ) (r : Result Order E)
    → now (get_or fields 0 d) ≡ word → IfOk r (λ o. order_fields o ≡ word ∷ map now (take (length fields - 1) (drop 1 fields))) → IfOk r (λ o. order_fields o ≡ map now fields)
word_fields now fields d some word (Err f) is read = tt
word_fields now fields d some word (Ok o) is read =
    let texts = map now (take (length fields - 1) (drop 1 fields)) in
    whole_fields now fields d some (order_fields o) texts (read ∙ ap (λ (w : List ℕ). w ∷ texts) (sym is)) refl

-- the rows of the program as definitions have them
abbrev ProgramRow : Type 0
ProgramRow = Bor (List ℕ) × Bor (List ℕ) × Grammar

abbrev row_of : ProgramRow → Row
row_of row = (row.0.now, row.1.now, row.2)

found_view : (word : List ℕ) (its : List ProgramRow)
    → option_map (λ (row : ProgramRow). row.2) (find (λ (row : ProgramRow). bytes_eq word row.0.now) its) ≡ option_map (λ (row : Row). row.2) (find (λ (row : Row). bytes_eq word row.0) (map row_of its))
found_view word [] = refl
found_view word (row ∷ its) =
    elim (bytes_eq word row.0.now) as (λ b. option_map (λ (row : ProgramRow). row.2) (cond b (Some row) (find (λ (row : ProgramRow). bytes_eq word row.0.now) its)) ≡ option_map (λ (row : Row). row.2) (cond b (Some (row_of row)) (find (λ (row : Row). bytes_eq word row.0) (map row_of its)))) [
      | true ↦ refl
      | false ↦ found_view word its
    ]

pub in_rows : (word : List ℕ) (its : List ProgramRow) (found : Option Grammar) → found ≡ option_map (λ (row : ProgramRow). row.2) (find (λ (row : ProgramRow). bytes_eq word row.0.now) its)
    → map row_of its ≡ rows → found ≡ grammar_of word
unfolding grammar_of
in_rows word its found is same =
    is ∙ found_view word its ∙ ap (λ (rs : List Row). option_map (λ (row : Row). row.2) (find (λ (row : Row). bytes_eq word row.0) rs)) same

-- different texts are not equal
differs : (xs ys : List ℕ) → xs ≢ ys → bytes_eq xs ys ≡ false
differs xs ys other = by (bytes_eq xs ys) (bytes_eq-Decides xs ys)
  where
    by : (b : Bool) → Decides b (xs ≡ ys) → b ≡ false
    by true d = absurd (other (d.0 refl))
    by false d = refl

spelled : (n : ℕ) → n < 2 ^ 64 → is_number (decimal n) ≡ true
spelled n small =
    let value = (decimal_is_IsNumeral n small).1 in
    rw (value, (bytes_eq-Decides (decimal n) (decimal n)).1 refl, lt-ltb n (2 ^ 64) small) refl

-- a text is a number where it is the decimal text of one below 2^64
is_number-Decides : (t : List ℕ) → Decides (is_number t) ((n : ℕ) × (n < 2 ^ 64) × (t ≡ decimal n))
is_number-Decides t =
    let value = digits_value 10 t in (
      λ yes. let both = and_parts (bytes_eq t (decimal value)) (nat_lt value (2 ^ 64)) yes in
          (value, ltb-true value (2 ^ 64) both.1, (bytes_eq-Decides t (decimal value)).0 both.0),
      λ number. subst (λ (s : List ℕ). is_number s ≡ true) (sym number.2) (spelled number.0 number.1),
    )

-- the decimal text of the number that was read is a number
pub number_read : {E : Type 0} (t : List ℕ) (r : Result ℕ E) (n : ℕ) → ParsesUnsigned 64 10 t r → r ≡ Ok n → t ≡ decimal n → true ≡ is_number t
number_read t (Ok m) n parsed ok is =
    let same : m ≡ n = cc ok in
    let small : n < 2 ^ 64 = subst (λ (k : ℕ). k < 2 ^ 64) (sym parsed.1 ∙ same) parsed.0.1 in
    sym ((is_number-Decides t).1 (n, small, is))
number_read t (Err e) n parsed ok is = absurd cc

-- a text that is not the decimal text of the number that was read, if one was, is no number
pub number_refused : {E : Type 0} (t : List ℕ) (r : Result ℕ E) → ParsesUnsigned 64 10 t r → ((n : ℕ) → r ≡ Ok n → t ≢ decimal n) → false ≡ is_number t
number_refused t r parsed other = sym (false_from_ne_true (is_number t) (λ yes.
    let number = (is_number-Decides t).0 yes in
    other number.0 (parse-decimal 64 number.0 t r number.1 number.1 number.2 parsed) number.2))

-- one text that is not OVER has the fault of its fields
pub over_fault-other : {B : Type 0} (now : B → List ℕ) (texts : List B) (d : B) → 1 ≤ length texts → length texts < 2
    → now (get_or texts 0 d) ≢ codes "OVER" → Some fault.Fields ≡ over_fault (map now texts)
over_fault-other now [] d some one other = absurd (omega (arith, some))
over_fault-other now (a ∷ b ∷ texts) d some one other = absurd (omega (arith, one))
over_fault-other now (a ∷ []) d some one other = rw (differs (now a) (codes "OVER") other) refl

-- one text that is not ALL has the fault of its fields
pub reload_fault-other : {B : Type 0} (now : B → List ℕ) (texts : List B) (d : B) → 1 ≤ length texts → length texts < 2
    → now (get_or texts 0 d) ≢ codes "ALL" → Some fault.Fields ≡ reload_fault (map now texts)
reload_fault-other now [] d some one other = absurd (omega (arith, some))
reload_fault-other now (a ∷ b ∷ texts) d some one other = absurd (omega (arith, one))
reload_fault-other now (a ∷ []) d some one other = rw (differs (now a) (codes "ALL") other) refl

long_fault : (x : List ℕ) → 200 < length x → first_order_fault x ≡ Some fault.Long
unfolding first_order_fault
long_fault x long = rw (lt-ltb 200 (length x) long) refl

long_reads : (x y : List ℕ) (r : Result Order CommandFault) → 200 < length x → 200 < length y → ReadsOrder x r → ReadsOrder y r
long_reads x y (Ok o) lx ly h = let e = long_fault x lx in let no = h.1 in absurd (cc (e, no))
long_reads x y (Err f) lx ly h = long_fault y ly ∙ sym (long_fault x lx) ∙ h

-- the kept part of an order is read as the order is
pub kept_reads_order : (x : List ℕ) (r : Result Order CommandFault) → ReadsOrder (kept_part x) r → ReadsOrder x r
kept_reads_order x r h = elim (cases_lt 201 (length x)) [
  | inr short ↦ subst (λ (t : List ℕ). ReadsOrder t r) (take_all 201 x short) h
  | inl long ↦ let n = length-take-le 201 x (omega arith) in long_reads (kept_part x) x r (omega arith) (omega arith) h
]
