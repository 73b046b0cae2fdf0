-- Elements at the front of bytes.
use Rattle.std.proofs.Common.{◌≡◌, ◌+◌, ◌-◌, ◌*◌, ◌≤◌, ℕ, Bool, true, false, cond, eqb, List, [], ◌∷◌, ◌++◌, length, get_or, Option, Some, None, refl, sym, ap, ◌∙◌, subst, arith, eqb-true, ne_eqb}
use Rattle.std.proofs.lemmas.Bool.{eqb-false}
use Rattle.std.proofs.lemmas.List.{append_cancel_left, length-append}
use Rattle.nmvs_elements.specs.declared.identifiers.National.{National}
use Rattle.nmvs_elements.specs.declared.identifiers.ApplicationIdentifier.{ApplicationIdentifier}
use Rattle.nmvs_elements.specs.declared.identifiers.ApplicationIdentifier.TheVariants as identifiers
use Rattle.nmvs_elements.specs.Elements.{Element, identifier_text, first_digits, predefined_length, IsKnown, EndsValue, skip_separator, BeginsWith, BeginsWithElements, value_at, value_of, AreDistinct}
use Rattle.nmvs_elements.specs.Front.{IsValueBefore}
use Rattle.nmvs_elements.specs.Scan.{IsShort}
use Rattle.nmvs_elements.proofs.Runs.{same_values}

-- the number of two digits
abbrev pub digits_of : List ℕ → ℕ
digits_of bytes = 10 * (get_or bytes 0 0 - 48) + (get_or bytes 1 0 - 48)

pub digits_printed : (i : ApplicationIdentifier) (x : List ℕ) → digits_of (identifier_text i ++ x) ≡ first_digits i
digits_printed identifiers.Code x = refl
digits_printed identifiers.Serial x = refl
digits_printed identifiers.Batch x = refl
digits_printed identifiers.Expiry x = refl
digits_printed (identifiers.NationalNumber n) x = refl

-- elements that are read differ in their first two digits
pub by_digits : (nation : Option National) (i j : ApplicationIdentifier) → IsKnown nation i → IsKnown nation j → first_digits i ≡ first_digits j → i ≡ j
by_digits nation identifiers.Code identifiers.Code k l e = refl
by_digits nation identifiers.Code identifiers.Serial k l e = absurd (omega (arith, e))
by_digits nation identifiers.Code identifiers.Batch k l e = absurd (omega (arith, e))
by_digits nation identifiers.Code identifiers.Expiry k l e = absurd (omega (arith, e))
by_digits nation identifiers.Code (identifiers.NationalNumber n) k l e = absurd (omega (arith, e))
by_digits nation identifiers.Serial identifiers.Code k l e = absurd (omega (arith, e))
by_digits nation identifiers.Serial identifiers.Serial k l e = refl
by_digits nation identifiers.Serial identifiers.Batch k l e = absurd (omega (arith, e))
by_digits nation identifiers.Serial identifiers.Expiry k l e = absurd (omega (arith, e))
by_digits nation identifiers.Serial (identifiers.NationalNumber n) k l e = absurd (omega (arith, e))
by_digits nation identifiers.Batch identifiers.Code k l e = absurd (omega (arith, e))
by_digits nation identifiers.Batch identifiers.Serial k l e = absurd (omega (arith, e))
by_digits nation identifiers.Batch identifiers.Batch k l e = refl
by_digits nation identifiers.Batch identifiers.Expiry k l e = absurd (omega (arith, e))
by_digits nation identifiers.Batch (identifiers.NationalNumber n) k l e = absurd (omega (arith, e))
by_digits nation identifiers.Expiry identifiers.Code k l e = absurd (omega (arith, e))
by_digits nation identifiers.Expiry identifiers.Serial k l e = absurd (omega (arith, e))
by_digits nation identifiers.Expiry identifiers.Batch k l e = absurd (omega (arith, e))
by_digits nation identifiers.Expiry identifiers.Expiry k l e = refl
by_digits nation identifiers.Expiry (identifiers.NationalNumber n) k l e = absurd (omega (arith, e))
by_digits nation (identifiers.NationalNumber m) identifiers.Code k l e = absurd (omega (arith, e))
by_digits nation (identifiers.NationalNumber m) identifiers.Serial k l e = absurd (omega (arith, e))
by_digits nation (identifiers.NationalNumber m) identifiers.Batch k l e = absurd (omega (arith, e))
by_digits nation (identifiers.NationalNumber m) identifiers.Expiry k l e = absurd (omega (arith, e))
by_digits nation (identifiers.NationalNumber m) (identifiers.NationalNumber n) k l e =
    let same : m ≡ n = cc in
    ap (λ (x : National). identifiers.NationalNumber x) same

-- so no two of them begin the same bytes
pub same_identifier : (nation : Option National) (i j : ApplicationIdentifier) (x y : List ℕ) → IsKnown nation i → IsKnown nation j → identifier_text i ++ x ≡ identifier_text j ++ y → i ≡ j
same_identifier nation i j x y k l e = by_digits nation i j k l (sym (digits_printed i x) ∙ ap digits_of e ∙ digits_printed j y)

-- and the bytes after it are the same
pub same_content : (i j : ApplicationIdentifier) (x y : List ℕ) → i ≡ j → identifier_text i ++ x ≡ identifier_text j ++ y → x ≡ y
same_content i j x y same e = append_cancel_left (identifier_text j) x y (ap (λ (k : ApplicationIdentifier). identifier_text k ++ x) (sym same) ∙ e)

-- bytes begin with one element
pub one_element : (nation : Option National) (bytes : List ℕ) (e f : Element) (r s : List ℕ) → BeginsWith nation bytes e r → BeginsWith nation bytes f s → (e ≡ f) × (r ≡ s)
one_element nation bytes e f r s is is_too =
    let both = sym is.these ∙ is_too.these in
    let same = same_identifier nation e.identifier f.identifier _ _ is.known is_too.known both in
    let contents = same_content e.identifier f.identifier _ _ same both in
    let ends = subst (λ (k : ApplicationIdentifier). EndsValue (predefined_length k) e.value is.behind) same is.ends in
    let values = same_values (predefined_length f.identifier) e.value f.value is.behind is_too.behind is.one_piece is_too.one_piece ends is_too.ends contents in
    ((λ k. record { identifier = same k; value = values.0 k }), is.skipped ∙ ap skip_separator values.1 ∙ sym is_too.skipped)

pub identifier_long : (i : ApplicationIdentifier) (x : List ℕ) → 2 + length x ≤ length (identifier_text i ++ x)
identifier_long identifiers.Code x = omega (arith, length-append (identifier_text identifiers.Code) x)
identifier_long identifiers.Serial x = omega (arith, length-append (identifier_text identifiers.Serial) x)
identifier_long identifiers.Batch x = omega (arith, length-append (identifier_text identifiers.Batch) x)
identifier_long identifiers.Expiry x = omega (arith, length-append (identifier_text identifiers.Expiry) x)
identifier_long (identifiers.NationalNumber n) x = omega (arith, length-append (identifier_text (identifiers.NationalNumber n)) x)

pub skip_shorter : (bytes : List ℕ) → length (skip_separator bytes) ≤ length bytes
skip_shorter [] = omega arith
skip_shorter (b ∷ bs) = elim (eqb b 29) as (λ t. length (cond t bs (b ∷ bs)) ≤ length (b ∷ bs)) [ true ↦ omega arith | false ↦ omega arith ]

-- the rest after an element is shorter
pub behind_shorter : (nation : Option National) (bytes : List ℕ) (e : Element) (rest : List ℕ) → BeginsWith nation bytes e rest → length rest + 2 ≤ length bytes
behind_shorter nation bytes e rest is =
    omega (arith, ap length is.these, identifier_long e.identifier (e.value ++ is.behind), length-append e.value is.behind, ap length is.skipped, skip_shorter is.behind)

pub elements_shorter : (nation : Option National) (bytes : List ℕ) (es : List Element) (rest : List ℕ) → BeginsWithElements nation bytes es rest → length rest + 2 * length es ≤ length bytes
elements_shorter nation bytes [] rest these = omega (arith, ap length these)
elements_shorter nation bytes (e ∷ es) rest these =
    omega (arith, behind_shorter nation bytes e these.0 these.1, elements_shorter nation these.0 es rest these.2)

-- one more element
pub one_more : (nation : Option National) (bytes : List ℕ) (es : List Element) (rest : List ℕ) (e : Element) (behind : List ℕ) → BeginsWithElements nation bytes es rest → BeginsWith nation rest e behind
    → BeginsWithElements nation bytes (es ++ e ∷ []) behind
one_more nation bytes [] rest e behind these begins = (behind, subst (λ (y : List ℕ). BeginsWith nation y e behind) (sym these) begins, refl)
one_more nation bytes (d ∷ es) rest e behind these begins = (these.0, these.1, one_more nation these.0 es rest e behind these.2 begins)

pub taken : {A : Type 0} (t : Bool) (v : A) (o : Option A) → cond t (Some v) o ≡ None → (t ≡ false) × (o ≡ None)
taken true v o e = absurd cc
taken false v o e = (refl, e)

-- the values, with one more element that did not stand there before
pub value_at_more : (digits : ℕ) (es : List Element) (e : Element) → value_of es e.identifier ≡ None
    → value_at digits (es ++ e ∷ []) ≡ cond (eqb digits (first_digits e.identifier)) (Some e.value) (value_at digits es)
value_at_more digits [] e none = refl
value_at_more digits (d ∷ es) e none =
    let apart = taken (eqb (first_digits e.identifier) (first_digits d.identifier)) d.value (value_of es e.identifier) none in
    ap (cond (eqb digits (first_digits d.identifier)) (Some d.value)) (value_at_more digits es e apart.1)
    ∙ exchanged (first_digits e.identifier) (first_digits d.identifier) digits d.value e.value (value_at digits es) apart.0
  where
    exchanged : (a b n : ℕ) (v w : List ℕ) (o : Option (List ℕ)) → eqb a b ≡ false
        → cond (eqb n b) (Some v) (cond (eqb n a) (Some w) o) ≡ cond (eqb n a) (Some w) (cond (eqb n b) (Some v) o)
    exchanged a b n v w o apart = by_tests (eqb n a) (eqb n b) refl refl
      where
        by_tests : (s t : Bool) → eqb n a ≡ s → eqb n b ≡ t → cond t (Some v) (cond s (Some w) o) ≡ cond s (Some w) (cond t (Some v) o)
        by_tests true true ea eb = absurd (eqb-false a b apart (sym (eqb-true n a ea) ∙ eqb-true n b eb))
        by_tests true false ea eb = refl
        by_tests false true ea eb = refl
        by_tests false false ea eb = refl

pub distinct_more : (es : List Element) (e : Element) → AreDistinct es → value_of es e.identifier ≡ None → AreDistinct (es ++ e ∷ [])
distinct_more [] e once none = (refl, tt)
distinct_more (d ∷ es) e once none =
    let apart = taken (eqb (first_digits e.identifier) (first_digits d.identifier)) d.value (value_of es e.identifier) none in (
      value_at_more (first_digits d.identifier) es e apart.1 ∙ other (first_digits d.identifier) (first_digits e.identifier) e.value (value_of es d.identifier) apart.0 ∙ once.0,
      distinct_more es e once.1 apart.1,
    )
  where
    other : (a b : ℕ) (v : List ℕ) (o : Option (List ℕ)) → eqb b a ≡ false → cond (eqb a b) (Some v) o ≡ o
    other a b v o apart = ap (λ t. cond t (Some v) o) (ne_eqb a b (λ same. eqb-false b a apart (sym same)))

-- an identifier, a value and the bytes after it are an element
pub begins : (nation : Option National) (bytes content : List ℕ) (identifier : ApplicationIdentifier) (value behind rest : List ℕ) → IsKnown nation identifier → bytes ≡ identifier_text identifier ++ content
    → IsValueBefore (predefined_length identifier) content value behind → rest ≡ skip_separator behind → BeginsWith nation bytes (record { identifier = identifier; value = value }) rest
begins nation bytes content identifier value behind rest known these is skipped = record {
  behind = behind;
  these = these ∙ ap (λ y. identifier_text identifier ++ y) is.these;
  known = known;
  one_piece = is.one_piece;
  ends = is.ends;
  skipped = skipped;
}

-- an identifier without a whole value after it
pub short : (nation : Option National) (bytes content : List ℕ) (identifier : ApplicationIdentifier) → IsKnown nation identifier → bytes ≡ identifier_text identifier ++ content
    → ((value behind : List ℕ) → IsValueBefore (predefined_length identifier) content value behind → ⊥) → IsShort nation bytes identifier
short nation bytes content identifier known these none = record {
  content = content;
  known = known;
  these = these;
  none = λ value rest is.
      none value is.behind (record {
        these = same_content identifier identifier content (value ++ is.behind) refl (sym these ∙ is.these);
        one_piece = is.one_piece;
        ends = is.ends;
      });
}
