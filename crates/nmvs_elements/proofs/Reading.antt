-- Elements that are found one after the other.
use Rattle.std.proofs.Common.{◌≡◌, ◌≢◌, ◌-◌, ◌≤◌, ◌<◌, ℕ, true, false, cond, eqb, List, [], ◌∷◌, ◌++◌, length, Option, Some, None, is_some, Result, Err, refl, sym, ap, ◌∙◌, subst, arith, inl, inr, eq-eqb, ne_eqb}
use Rattle.std.proofs.lemmas.Bool.{false≢true}
use Rattle.nmvs_elements.specs.declared.identifiers.National.{National}
use Rattle.nmvs_elements.specs.declared.identifiers.ApplicationIdentifier.{ApplicationIdentifier}
use Rattle.nmvs_elements.specs.declared.elements.Elements.{Elements}
use Rattle.nmvs_elements.specs.declared.fault.ScanFault.{ScanFault}
use Rattle.nmvs_elements.specs.declared.fault.ScanFault.TheVariants as faults
use Rattle.nmvs_elements.specs.declared.found.Found.{Found}
use Rattle.nmvs_elements.specs.Elements.{Element, first_digits, BeginsWith, BeginsWithElements, value_of}
use Rattle.nmvs_elements.specs.Front.{HasNoIdentifier, HasNoElement}
use Rattle.nmvs_elements.specs.Found.{HasFound, found_at}
use Rattle.nmvs_elements.specs.Scan.{IsShort, ReadsValues, ReadsString, unknown_fault, at_end, at_unknown, at_short, at_repeated}
use Rattle.nmvs_elements.proofs.ElementFacts.{elements_shorter, one_more, value_at_more, distinct_more}

-- nothing is found before anything is read
pub begun : (nation : Option National) (bytes : List ℕ) (found : Found) → ((identifier : ApplicationIdentifier) → found_at found identifier ≡ None) → HasFound nation bytes found bytes
begun nation bytes found none = record { elements = []; these = refl; once = tt; values = none }

none_there : {A : Type 0} (o : Option A) → is_some o ≡ false → o ≡ None
none_there None e = refl
none_there (Some v) e = absurd cc

some_there : {A : Type 0} (o : Option A) → is_some o ≡ true → o ≢ None
some_there o e none = false≢true (sym (ap is_some none) ∙ e)

-- an element that was not there before is found
pub goes_on : (nation : Option National) (bytes : List ℕ) (found more : Found) (rest : List ℕ) (identifier : ApplicationIdentifier) (value behind : List ℕ) → HasFound nation bytes found rest
    → BeginsWith nation rest (record { identifier = identifier; value = value }) behind → is_some (found_at found identifier) ≡ false
    → ((other : ApplicationIdentifier) → found_at more other ≡ cond (eqb (first_digits other) (first_digits identifier)) (Some value) (found_at found other))
    → HasFound nation bytes more behind
goes_on nation bytes found more rest identifier value behind so begins fresh set =
    let e : Element = record { identifier = identifier; value = value } in
    let none : value_of so.elements identifier ≡ None = sym (so.values identifier) ∙ none_there (found_at found identifier) fresh in
    record {
      elements = so.elements ++ e ∷ [];
      these = one_more nation bytes so.elements rest e behind so.these begins;
      once = distinct_more so.elements e so.once none;
      values = λ other.
          set other ∙ ap (cond (eqb (first_digits other) (first_digits identifier)) (Some value)) (so.values other)
          ∙ sym (value_at_more (first_digits other) so.elements e none);
    }

-- the rest is no longer than the bytes
pub rest_within : (nation : Option National) (bytes : List ℕ) (found : Found) (rest : List ℕ) → HasFound nation bytes found rest → length rest ≤ length bytes
rest_within nation bytes found rest so = omega (arith, elements_shorter nation bytes so.elements rest so.these)

-- a value that ends too early
pub stops_short : (nation : Option National) (size : ℕ) (bytes : List ℕ) (found : Found) (rest : List ℕ) (identifier : ApplicationIdentifier) → HasFound nation bytes found rest → IsShort nation rest identifier
    → ReadsString nation size bytes (Err (faults.Short identifier))
stops_short nation size bytes found rest identifier so short =
    record { elements = so.elements; rest = rest; these = so.these; once = so.once; stop = at_short identifier; stops = short; reads = refl }

-- an element that was there before
pub stops_repeated : (nation : Option National) (size : ℕ) (bytes : List ℕ) (found : Found) (rest : List ℕ) (identifier : ApplicationIdentifier) (value behind : List ℕ) → HasFound nation bytes found rest
    → BeginsWith nation rest (record { identifier = identifier; value = value }) behind → is_some (found_at found identifier) ≡ true → ReadsString nation size bytes (Err (faults.Twice identifier))
stops_repeated nation size bytes found rest identifier value behind so begins before = record {
  elements = so.elements;
  rest = rest;
  these = so.these;
  once = so.once;
  stop = at_repeated identifier;
  stops = record { value = value; rest = behind; begins = begins; before = λ none. some_there (found_at found identifier) before (so.values identifier ∙ none) };
  reads = refl;
}

-- all bytes are left exactly if no element was read
pub unknown_told : (nation : Option National) (bytes : List ℕ) (es : List Element) (rest : List ℕ) (place : ℕ) → BeginsWithElements nation bytes es rest
    → cond (eqb (length rest) (length bytes)) faults.NoElement (faults.Element place) ≡ unknown_fault es place
unknown_told nation bytes [] rest place these = ap (λ t. cond t faults.NoElement (faults.Element place)) (same_length (length rest) (length bytes) (ap length (sym these)))
  where
    same_length : (m n : ℕ) → m ≡ n → eqb m n ≡ true
    same_length m n e = eq-eqb m n e
unknown_told nation bytes (e ∷ es) rest place these =
    let less : length rest < length bytes = omega (arith, elements_shorter nation bytes (e ∷ es) rest these) in
    ap (λ t. cond t faults.NoElement (faults.Element place)) (other_length (length rest) (length bytes) less)
  where
    other_length : (m n : ℕ) → m < n → eqb m n ≡ false
    other_length m n less = ne_eqb m n (λ e. omega (arith, e, less))

-- an element that is not read
pub stops_unknown : (nation : Option National) (size : ℕ) (bytes : List ℕ) (found : Found) (rest : List ℕ) (fault : ScanFault) → HasFound nation bytes found rest → rest ≢ [] → HasNoIdentifier nation rest
    → fault ≡ cond (eqb (length rest) (length bytes)) faults.NoElement (faults.Element (size - length rest)) → ReadsString nation size bytes (Err fault)
stops_unknown nation size bytes found rest fault so some none told = record {
  elements = so.elements;
  rest = rest;
  these = so.these;
  once = so.once;
  stop = at_unknown;
  stops = record { some = some; none = none };
  reads = ap (λ (f : ScanFault). Err f) (told ∙ unknown_told nation bytes so.elements rest (size - length rest) so.these);
}

-- either
pub stops_there : (nation : Option National) (size : ℕ) (bytes : List ℕ) (found : Found) (rest : List ℕ) (unknown fault : ScanFault) → HasFound nation bytes found rest → rest ≢ []
    → unknown ≡ cond (eqb (length rest) (length bytes)) faults.NoElement (faults.Element (size - length rest)) → HasNoElement nation rest unknown fault → ReadsString nation size bytes (Err fault)
stops_there nation size bytes found rest unknown fault so some told (inl none) = stops_unknown nation size bytes found rest fault so some none.1 (none.0 ∙ told)
stops_there nation size bytes found rest unknown fault so some told (inr short) =
    subst (λ (f : ScanFault). ReadsString nation size bytes (Err f)) (sym short.1) (stops_short nation size bytes found rest short.0 so short.2)

-- at the end the values are read
pub reads_found : (nation : Option National) (size : ℕ) (bytes : List ℕ) (found : Found) (result : Result Elements ScanFault) → HasFound nation bytes found [] → ReadsValues nation (found_at found) result
    → ReadsString nation size bytes result
reads_found nation size bytes found result so reads = record {
  elements = so.elements;
  rest = [];
  these = so.these;
  once = so.once;
  stop = at_end;
  stops = refl;
  reads = subst (λ (values : ApplicationIdentifier → Option (List ℕ)). ReadsValues nation values result) (λ k identifier. so.values identifier k) reads;
}
