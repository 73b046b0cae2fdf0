-- The values of a header are read in one way.
use Rattle.std.proofs.Common.{◌≡◌, ◌≢◌, ◌<◌, ◌==◌, ℕ, true, false, List, [], ◌∷◌, ◌++◌, length, take, drop, filter, Option, Some, None, IfNone, is_some, Bor, refl, sym, ap, ◌∙◌, arith}
use Rattle.std.specs.List.{flat_map}
use Rattle.std.proofs.lemmas.Bool.Decides.{nat_tests}
use Rattle.std.proofs.lemmas.List.{append-nil, append_assoc, take_at, drop_at, flat_map_more}
use Rattle.std.proofs.lemmas.List.Elements.{filter-append}
use Rattle.nmvs_gateway.specs.Header.{TypedValue, typed_bytes, is_of, IsOnlyValue}

abbrev spelled : List TypedValue → List ℕ
spelled vs = flat_map typed_bytes vs

-- two lists that begin with as many bytes, and are the same
pub same_halves : (p q r s : List ℕ) → length p ≡ length q → p ++ r ≡ q ++ s → (p ≡ q) × (r ≡ s)
same_halves p q r s long e = (
  sym (take_at p r (length p) refl) ∙ ap (take (length p)) e ∙ take_at q s (length p) (sym long),
  sym (drop_at p r (length p) refl) ∙ ap (drop (length p)) e ∙ drop_at q s (length p) (sym long),
)

-- if the bytes of some values, with more after them, are those of others, the others are these values and those of the rest
pub begin_so : (a b : List TypedValue) (x : List ℕ) → spelled a ++ x ≡ spelled b → (after : List TypedValue) × (b ≡ a ++ after) × (x ≡ spelled after)
begin_so [] b x e = (b, refl, e)
begin_so (v ∷ vs) [] x e = absurd cc
begin_so (v ∷ vs) (w ∷ ws) x e =
    let kinds : v.kind ≡ w.kind = cc in
    let lengths : length v.value ≡ length w.value = cc in
    let tails : (v.value ++ spelled vs) ++ x ≡ w.value ++ spelled ws = cc in
    let halves = same_halves v.value w.value (spelled vs ++ x) (spelled ws) lengths (sym (append_assoc v.value (spelled vs) x) ∙ tails) in
    let later = begin_so vs ws x halves.1 in
    let heads : w ≡ v = λ i. record { kind = sym kinds i; value = sym halves.0 i } in
    (later.0, (λ i. heads i ∷ later.1 i), later.2)

-- the values of a type that were found, one at most
abbrev pub found_values : ℕ → Option (Bor (List ℕ)) → List TypedValue
found_values kind None = []
found_values kind (Some value) = record { kind = kind; value = value.now } ∷ []

-- the values that were read so far: those before the rest, and those of them that are of the type
pub record ReadSoFar (bytes rest : List ℕ) (kind : ℕ) (found : Option (Bor (List ℕ))) : Type 0 where
  pub before : List TypedValue
  pub these : bytes ≡ spelled before ++ rest
  pub of_kind : filter (is_of kind) before ≡ found_values kind found

one_more : (before : List TypedValue) (v : TypedValue) (bytes rest behind : List ℕ) → bytes ≡ spelled before ++ rest → rest ≡ typed_bytes v ++ behind → bytes ≡ spelled (before ++ v ∷ []) ++ behind
one_more before v bytes rest behind these first =
    these ∙ ap (λ y. spelled before ++ y) first ∙ sym (append_assoc (spelled before) (typed_bytes v) behind)
    ∙ ap (λ y. y ++ behind) (flat_map_more typed_bytes [] before v)

another : (of kind : ℕ) → of ≢ kind → (of == kind) ≡ false
another of kind differs = grind (arith, nat_tests)

the_same : (of kind : ℕ) → of ≡ kind → (of == kind) ≡ true
the_same of kind same = grind (arith, nat_tests)

filter_one : (kind : ℕ) (v : TypedValue) → is_of kind v ≡ true → filter (is_of kind) (v ∷ []) ≡ v ∷ []
filter_one kind v e = rw e refl

filter_none : (kind : ℕ) (v : TypedValue) → is_of kind v ≡ false → filter (is_of kind) (v ∷ []) ≡ []
filter_none kind v e = rw e refl

-- a value of another type is passed by
pub passes : (bytes rest behind : List ℕ) (kind : ℕ) (found : Option (Bor (List ℕ))) (v : TypedValue) → ReadSoFar bytes rest kind found → rest ≡ typed_bytes v ++ behind
    → v.kind ≢ kind → ReadSoFar bytes behind kind found
passes bytes rest behind kind found v so first differs = let other = another v.kind kind differs in record {
  before = so.before ++ v ∷ [];
  these = one_more so.before v bytes rest behind so.these first;
  of_kind = filter-append (is_of kind) so.before (v ∷ []) ∙ ap (λ y. filter (is_of kind) so.before ++ y) (filter_none kind v other)
      ∙ append-nil (filter (is_of kind) so.before) ∙ so.of_kind;
}

-- the first of its type is found
pub finds : (bytes rest behind : List ℕ) (kind : ℕ) (found : Option (Bor (List ℕ))) (of : ℕ) (value : Bor (List ℕ)) → ReadSoFar bytes rest kind found
    → rest ≡ typed_bytes (record { kind = of; value = value.now }) ++ behind → of ≡ kind → false ≡ is_some found → ReadSoFar bytes behind kind (Some value)
finds bytes rest behind kind (Some first) of value so e same none = absurd cc
finds bytes rest behind kind None of value so e same none =
    let v : TypedValue = record { kind = of; value = value.now } in
    record {
      before = so.before ++ v ∷ [];
      these = one_more so.before v bytes rest behind so.these e;
      of_kind = filter-append (is_of kind) so.before (v ∷ []) ∙ ap (λ y. y ++ filter (is_of kind) (v ∷ [])) so.of_kind
          ∙ filter_one kind v (the_same of kind same) ∙ (λ i. record { kind = same i; value = value.now } ∷ []);
    }

-- a rest that begins with no value is not the bytes of values
pub stops : (bytes rest value : List ℕ) (kind : ℕ) (found : Option (Bor (List ℕ))) → ReadSoFar bytes rest kind found → 0 < length rest
    → ((v : TypedValue) (behind : List ℕ) → rest ≡ typed_bytes v ++ behind → ⊥) → IsOnlyValue bytes kind value → ⊥
stops bytes rest value kind found so some none is =
    let later = begin_so so.before is.values rest (sym so.these ∙ is.these) in
    no_values rest later.0 later.2 some none
  where
    no_values : (rest : List ℕ) (after : List TypedValue) → rest ≡ spelled after → 0 < length rest
        → ((v : TypedValue) (behind : List ℕ) → rest ≡ typed_bytes v ++ behind → ⊥) → ⊥
    no_values rest [] e some none = omega (arith, ap length e)
    no_values rest (v ∷ vs) e some none = none v (spelled vs) e

-- a second one of the type is one too many
pub repeats : (bytes rest behind value : List ℕ) (kind : ℕ) (found : Option (Bor (List ℕ))) (v : TypedValue) → ReadSoFar bytes rest kind found → rest ≡ typed_bytes v ++ behind
    → v.kind ≡ kind → true ≡ is_some found → IsOnlyValue bytes kind value → ⊥
repeats bytes rest behind value kind None v so e same some is = absurd cc
repeats bytes rest behind value kind (Some first) v so e same some is =
    let one : TypedValue = record { kind = kind; value = first.now } in
    let only : TypedValue = record { kind = kind; value = value } in
    let later = begin_so (so.before ++ v ∷ []) is.values behind (sym (one_more so.before v bytes rest behind so.these e) ∙ is.these) in
    let front : filter (is_of kind) (so.before ++ v ∷ []) ≡ one ∷ v ∷ [] = filter-append (is_of kind) so.before (v ∷ [])
    ∙ ap (λ y. y ++ filter (is_of kind) (v ∷ [])) so.of_kind ∙ ap (λ y. one ∷ y) (filter_one kind v (the_same v.kind kind same)) in
    let all : one ∷ v ∷ filter (is_of kind) later.0 ≡ only ∷ [] =
    ap (λ y. y ++ filter (is_of kind) later.0) (sym front) ∙ sym (filter-append (is_of kind) (so.before ++ v ∷ []) later.0)
    ∙ ap (filter (is_of kind)) (sym later.1) ∙ is.only in
    absurd (omega (arith, ap length all))

nothing : (rest : List ℕ) (after : List TypedValue) → rest ≡ spelled after → length rest ≡ 0 → after ≡ []
nothing rest [] e none = refl
nothing rest (v ∷ vs) e none = absurd (omega (arith, ap length e))

-- at the end there is none if none was found
pub lacks : (bytes rest : List ℕ) (kind : ℕ) (found : Option (Bor (List ℕ))) → ReadSoFar bytes rest kind found → length rest ≡ 0 → IfNone found ((value : List ℕ) → IsOnlyValue bytes kind value → ⊥)
lacks bytes rest kind (Some value) so none = tt
lacks bytes rest kind None so none = λ value is.
    let only : TypedValue = record { kind = kind; value = value } in
    let later = begin_so so.before is.values rest (sym so.these ∙ is.these) in
    let after : later.0 ≡ [] = nothing rest later.0 later.2 none in
    let all : [] ≡ only ∷ [] =
    sym so.of_kind ∙ ap (filter (is_of kind)) (sym (append-nil so.before) ∙ ap (λ y. so.before ++ y) (sym after) ∙ sym later.1) ∙ is.only in
    absurd (omega (arith, ap length all))

-- values are read from their bytes in one way
values_once : (a b : List TypedValue) → spelled a ≡ spelled b → b ≡ a
values_once a b e =
    let later = begin_so a b [] (append-nil (spelled a) ∙ e) in
    later.1 ∙ ap (λ y. a ++ y) (nothing [] later.0 later.2 refl) ∙ append-nil a

-- there is one only value of a type
pub only_once : (bytes : List ℕ) (kind : ℕ) (value other : List ℕ) → IsOnlyValue bytes kind value → IsOnlyValue bytes kind other → value ≡ other
only_once bytes kind value other is is_too =
    let same : filter (is_of kind) is.values ≡ filter (is_of kind) is_too.values = ap (filter (is_of kind)) (values_once is_too.values is.values (sym is_too.these ∙ is.these)) in
    let ones : one_of kind value ∷ [] ≡ one_of kind other ∷ [] = sym is.only ∙ same ∙ is_too.only in
    let heads : one_of kind value ≡ one_of kind other = cc in
    ap (λ (v : TypedValue). v.value) heads
  where
    one_of : ℕ → List ℕ → TypedValue
    one_of kind value = record { kind = kind; value = value }
