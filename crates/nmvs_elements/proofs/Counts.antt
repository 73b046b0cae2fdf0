-- The number of elements of a pack's code, and their lengths.
use Rattle.std.proofs.Common.{◌≡◌, ◌+◌, ◌*◌, ◌≤◌, ◌&&◌, not, ℕ, Bool, true, false, cond, eqb, nat_le, List, [], ◌∷◌, length, Option, Some, None, is_some, refl, sym, ap, ◌∙◌, subst, arith, eqb-true, eq-eqb, ne_eqb, leb-true}
use Rattle.std.specs.List.{list_all, AllByRecursion}
use Rattle.std.specs.Char.{is_ascii_digit}
use Rattle.std.proofs.lemmas.Bool.{false≢true, and_parts}
use Rattle.nmvs_identifier.specs.Texts.{Text}
use Rattle.nmvs_identifier.specs.Characters.{is_in_set_82, is_set_82_text}
use Rattle.nmvs_identifier.specs.Expiry.{has_month, has_day}
use Rattle.nmvs_identifier.specs.ProductCode.{is_checked}
use Rattle.nmvs_elements.specs.declared.identifiers.National.{National}
use Rattle.nmvs_elements.specs.declared.identifiers.ApplicationIdentifier.{ApplicationIdentifier}
use Rattle.nmvs_elements.specs.declared.identifiers.ApplicationIdentifier.TheVariants as identifiers
use Rattle.nmvs_elements.specs.declared.elements.Elements.{Elements}
use Rattle.nmvs_elements.specs.Elements.{Element, first_digits, predefined_length, is_value, is_value_byte, IsKnown, value_at, value_of, AreDistinct}
use Rattle.nmvs_elements.specs.Scan.{HasNational, ArePack}

-- a value's length if it is predefined, and its most bytes
abbrev pub HasLength : Option ℕ → List ℕ → Type 0
HasLength None v = Unit {0}
HasLength (Some n) v = length v ≡ n

abbrev pub longest_value : ApplicationIdentifier → ℕ
longest_value identifiers.Code = 14
longest_value identifiers.Serial = 20
longest_value identifiers.Batch = 20
longest_value identifiers.Expiry = 6
longest_value (identifiers.NationalNumber n) = 20

-- the facts about a value in its grammar that decide its end
pub record IsWhole (identifier : ApplicationIdentifier) (v : List ℕ) : Type 0 where
  pub one_piece : list_all is_value_byte v ≡ true
  pub sized : HasLength (predefined_length identifier) v
  pub short : length v ≤ longest_value identifier

-- if a separator fails a test, bytes that pass it have no separator
pub no_separators : (test : ℕ → Bool) (v : List ℕ) → test 29 ≡ false → list_all test v ≡ true → list_all is_value_byte v ≡ true
no_separators test [] fails all = refl
no_separators test (b ∷ bs) fails all =
    let parts = and_parts (test b) (list_all test bs) all in
    let here : is_value_byte b ≡ true = ap not (other b parts.0) in
    (λ i. here i && no_separators test bs fails parts.1 i)
  where
    other : (b : ℕ) → test b ≡ true → eqb b 29 ≡ false
    other b passes = ne_eqb b 29 (λ same. false≢true (sym fails ∙ ap test (sym same) ∙ passes))

le_from : (m n : ℕ) → nat_le m n ≡ true → m ≤ n
le_from m n e = leb-true m n e

eq_from : (m n : ℕ) → eqb m n ≡ true → m ≡ n
eq_from m n e = eqb-true m n e

whole_text : (v : List ℕ) → is_set_82_text v ≡ true → (list_all is_value_byte v ≡ true) × (length v ≤ 20)
whole_text v e =
    let parts = and_parts (nat_le 1 (length v) && nat_le (length v) 20) (list_all is_in_set_82 v) e in
    let sizes = and_parts (nat_le 1 (length v)) (nat_le (length v) 20) parts.0 in
    (no_separators is_in_set_82 v refl parts.1, le_from (length v) 20 sizes.1)

whole_code : (v : List ℕ) → is_value identifiers.Code v ≡ true → IsWhole identifiers.Code v
whole_code v e =
    let parts = and_parts (eqb (length v) 14 && list_all is_ascii_digit v) (is_checked v) e in
    let front = and_parts (eqb (length v) 14) (list_all is_ascii_digit v) parts.0 in
    let long = eq_from (length v) 14 front.0 in
    record { one_piece = no_separators is_ascii_digit v refl front.1; sized = long; short = omega arith }

whole_expiry : (v : List ℕ) → is_value identifiers.Expiry v ≡ true → IsWhole identifiers.Expiry v
whole_expiry v e =
    let day = and_parts (eqb (length v) 6 && list_all is_ascii_digit v && has_month v) (has_day v) e in
    let month = and_parts (eqb (length v) 6 && list_all is_ascii_digit v) (has_month v) day.0 in
    let front = and_parts (eqb (length v) 6) (list_all is_ascii_digit v) month.0 in
    let long = eq_from (length v) 6 front.0 in
    record { one_piece = no_separators is_ascii_digit v refl front.1; sized = long; short = omega arith }

pub whole_value : (identifier : ApplicationIdentifier) (v : List ℕ) → is_value identifier v ≡ true → IsWhole identifier v
whole_value identifiers.Code v e = whole_code v e
whole_value identifiers.Serial v e = let text = whole_text v e in record { one_piece = text.0; sized = tt; short = text.1 }
whole_value identifiers.Batch v e = let text = whole_text v e in record { one_piece = text.0; sized = tt; short = text.1 }
whole_value identifiers.Expiry v e = whole_expiry v e
whole_value (identifiers.NationalNumber n) v e = let text = whole_text v e in record { one_piece = text.0; sized = tt; short = text.1 }

same_value : (o : Option (List ℕ)) (u v : List ℕ) (test : List ℕ → Bool) → o ≡ Some u → o ≡ Some v → test u ≡ true → test v ≡ true
same_value o u v test first found right =
    let both : Some u ≡ Some v = sym first ∙ found in
    let same : u ≡ v = cc in
    ap test (sym same) ∙ right

national_value : (n : National) (values : ApplicationIdentifier → Option (List ℕ)) (number : Option Text) (v : List ℕ) → HasNational (Some n) values number → values (identifiers.NationalNumber n) ≡ Some v
    → is_value (identifiers.NationalNumber n) v ≡ true
national_value n values None v has found = absurd has
national_value n values (Some t) v has found = same_value (values (identifiers.NationalNumber n)) t.bytes v (λ x. is_value (identifiers.NationalNumber n) x) has.0 found has.1

-- the value that a pack has of each element that is read is in its grammar
pub pack_value : (nation : Option National) (values : ApplicationIdentifier → Option (List ℕ)) (pack : Elements) (identifier : ApplicationIdentifier) (v : List ℕ) → ArePack nation values pack → IsKnown nation identifier
    → values identifier ≡ Some v → is_value identifier v ≡ true
pack_value nation values pack identifiers.Code v is known found = same_value (values identifiers.Code) _ v (λ x. is_value identifiers.Code x) is.code found is.is_code
pack_value nation values pack identifiers.Serial v is known found = same_value (values identifiers.Serial) _ v (λ x. is_value identifiers.Serial x) is.serial found is.is_serial
pack_value nation values pack identifiers.Batch v is known found = same_value (values identifiers.Batch) _ v (λ x. is_value identifiers.Batch x) is.batch found is.is_batch
pack_value nation values pack identifiers.Expiry v is known found = same_value (values identifiers.Expiry) _ v (λ x. is_value identifiers.Expiry x) is.expiry found is.is_expiry
pack_value nation values pack (identifiers.NationalNumber n) v is known found =
    national_value n values pack.national v (subst (λ (o : Option National). HasNational o values pack.national) known is.national) found

-- a property of each value that is found holds of each element of distinct ones
pub each_value : (P : ApplicationIdentifier → List ℕ → Type 0) (nation : Option National) (es : List Element) → AllByRecursion (λ (e : Element). IsKnown nation e.identifier) es → AreDistinct es
    → ((identifier : ApplicationIdentifier) (v : List ℕ) → IsKnown nation identifier → value_of es identifier ≡ Some v → P identifier v) → AllByRecursion (λ (e : Element). P e.identifier e.value) es
each_value P nation [] known once holds = tt
each_value P nation (e ∷ es) known once holds = (
  holds e.identifier e.value known.0 (first (first_digits e.identifier)),
  each_value P nation es known.1 once.1 (λ i v k found. holds i v k (later i v found)),
)
  where
    first : (n : ℕ) → cond (eqb n n) (Some e.value) (value_at n es) ≡ Some e.value
    first n = ap (λ t. cond t (Some e.value) (value_at n es)) (eq-eqb n n refl)

    other : (n : ℕ) (v : List ℕ) (t : Bool) → eqb n (first_digits e.identifier) ≡ t → value_at n es ≡ Some v → cond t (Some e.value) (value_at n es) ≡ Some v
    other n v false e_is found = found
    other n v true e_is found =
        let same : n ≡ first_digits e.identifier = eq_from n (first_digits e.identifier) e_is in
        let none : value_at n es ≡ None = ap (λ m. value_at m es) same ∙ once.0 in
        absurd cc

    later : (i : ApplicationIdentifier) (v : List ℕ) → value_of es i ≡ Some v → value_of (e ∷ es) i ≡ Some v
    later i v found = other (first_digits i) v (eqb (first_digits i) (first_digits e.identifier)) refl found

-- whether an element stands there, as a number
abbrev pub stands : ℕ → List Element → ℕ
stands digits es = cond (is_some (value_at digits es)) 1 0

pub one_at_most : (digits : ℕ) (es : List Element) → stands digits es ≤ 1
one_at_most digits es = elim (is_some (value_at digits es)) as (λ t. cond t 1 0 ≤ 1) [ true ↦ omega arith | false ↦ omega arith ]

absent : (digits : ℕ) (es : List Element) → value_at digits es ≡ None → stands digits es ≡ 0
absent digits es none = ap (λ (o : Option (List ℕ)). cond (is_some o) 1 0) none

pub present : (digits : ℕ) (es : List Element) (v : List ℕ) → value_at digits es ≡ Some v → stands digits es ≡ 1
present digits es v found = ap (λ (o : Option (List ℕ)). cond (is_some o) 1 0) found

-- the number of elements, counted by their identifiers
abbrev pub count : List Element → ℕ
count es = stands 1 es + stands 21 es + stands 10 es + stands 17 es + stands 71 es

-- and the most bytes that their text has, each with a separator
abbrev pub room : List Element → ℕ
room es = 17 * stands 1 es + 23 * stands 21 es + 23 * stands 10 es + 9 * stands 17 es + 24 * stands 71 es

abbrev pub room_of : ApplicationIdentifier → ℕ
room_of identifiers.Code = 17
room_of identifiers.Serial = 23
room_of identifiers.Batch = 23
room_of identifiers.Expiry = 9
room_of (identifiers.NationalNumber n) = 24

pub count_more : (i : ApplicationIdentifier) (v : List ℕ) (es : List Element) → value_of es i ≡ None → count (record { identifier = i; value = v } ∷ es) ≡ count es + 1
count_more identifiers.Code v es none = omega (arith, absent 1 es none)
count_more identifiers.Serial v es none = omega (arith, absent 21 es none)
count_more identifiers.Batch v es none = omega (arith, absent 10 es none)
count_more identifiers.Expiry v es none = omega (arith, absent 17 es none)
count_more (identifiers.NationalNumber n) v es none = omega (arith, absent 71 es none)

pub room_more : (i : ApplicationIdentifier) (v : List ℕ) (es : List Element) → value_of es i ≡ None → room (record { identifier = i; value = v } ∷ es) ≡ room es + room_of i
room_more identifiers.Code v es none = omega (arith, absent 1 es none)
room_more identifiers.Serial v es none = omega (arith, absent 21 es none)
room_more identifiers.Batch v es none = omega (arith, absent 10 es none)
room_more identifiers.Expiry v es none = omega (arith, absent 17 es none)
room_more (identifiers.NationalNumber n) v es none = omega (arith, absent 71 es none)

-- the number of distinct elements is this count
pub count_all : (es : List Element) → AreDistinct es → length es ≡ count es
count_all [] once = refl
count_all (e ∷ es) once = omega (arith, count_all es once.1, count_more e.identifier e.value es once.0)

-- a national number stands there only if a nation has one
no_national : (es : List Element) → AllByRecursion (λ (e : Element). IsKnown None e.identifier) es → value_at 71 es ≡ None
no_national [] known = refl
no_national (e ∷ es) known = not_national e.identifier e.value es known.0 (no_national es known.1)
  where
    not_national : (i : ApplicationIdentifier) (v : List ℕ) (es : List Element) → IsKnown None i → value_at 71 es ≡ None → value_at 71 (record { identifier = i; value = v } ∷ es) ≡ None
    not_national identifiers.Code v es known none = none
    not_national identifiers.Serial v es known none = none
    not_national identifiers.Batch v es known none = none
    not_national identifiers.Expiry v es known none = none
    not_national (identifiers.NationalNumber n) v es known none = absurd cc

abbrev pub national_count : Option National → ℕ
national_count None = 0
national_count (Some n) = 1

national_stands : (nation : Option National) (es : List Element) (number : Option Text) → AllByRecursion (λ (e : Element). IsKnown nation e.identifier) es → HasNational nation (value_of es) number
    → stands 71 es ≡ national_count nation
national_stands None es number known has = absent 71 es (no_national es known)
national_stands (Some n) es None known has = absurd has
national_stands (Some n) es (Some t) known has = present 71 es t.bytes has.0

-- so all codes of packs have the same number of elements
pub pack_count : (nation : Option National) (es : List Element) (pack : Elements) → AllByRecursion (λ (e : Element). IsKnown nation e.identifier) es → AreDistinct es → ArePack nation (value_of es) pack
    → length es ≡ 4 + national_count nation
pack_count nation es pack known once is =
    omega (
      arith,
      count_all es once,
      present 1 es _ is.code,
      present 21 es _ is.serial,
      present 10 es _ is.batch,
      present 17 es _ is.expiry,
      national_stands nation es pack.national known is.national,
    )
