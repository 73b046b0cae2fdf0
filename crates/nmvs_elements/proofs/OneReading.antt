-- A scan is read in one way.
use Rattle.std.proofs.Common.{◌≡◌, ◌≢◌, ◌⊎◌, ◌++◌, ℕ, cond, eqb, List, [], ◌∷◌, length, Option, Some, None, Result, Ok, Err, refl, sym, ap, ◌∙◌, subst, arith, inl, inr, ne_eqb}
use Rattle.std.specs.List.{find}
use Rattle.std.proofs.lemmas.Bool.{eqb-false}
use Rattle.std.proofs.lemmas.List.{append-nil}
use Rattle.nmvs_identifier.specs.Texts.{Text}
use Rattle.nmvs_elements.specs.declared.identifiers.National.{National}
use Rattle.nmvs_elements.specs.declared.identifiers.ApplicationIdentifier.{ApplicationIdentifier}
use Rattle.nmvs_elements.specs.declared.identifiers.ApplicationIdentifier.TheVariants as identifiers
use Rattle.nmvs_elements.specs.declared.elements.Elements.{Elements}
use Rattle.nmvs_elements.specs.declared.fault.ScanFault.{ScanFault}
use Rattle.nmvs_elements.specs.Elements.{Element, first_digits, required, skip_separator, BeginsWith, BeginsWithElements, value_at, value_of, AreDistinct}
use Rattle.nmvs_elements.specs.Scan.{Stop, StopsAt, HasNational, ArePack, ReadsBy, ReadsStop, ReadsString, ReadsBehind, ReadsScan, is_missing, has_wrong, at_end, at_unknown, at_short, at_repeated}
use Rattle.nmvs_elements.proofs.ElementFacts.{same_identifier, one_element, behind_shorter, identifier_long, taken}

-- of two readings of bytes, one goes on at the end of the other
meet : (nation : Option National) (bytes : List ℕ) (es fs : List Element) (r s : List ℕ) → BeginsWithElements nation bytes es r → BeginsWithElements nation bytes fs s
    → ((after : List Element) × (fs ≡ es ++ after) × BeginsWithElements nation r after s) ⊎ ((after : List Element) × (es ≡ fs ++ after) × BeginsWithElements nation s after r)
meet nation bytes [] fs r s a b = inl (fs, refl, subst (λ (y : List ℕ). BeginsWithElements nation y fs s) a b)
meet nation bytes (e ∷ es) [] r s a b = inr (e ∷ es, refl, subst (λ (y : List ℕ). BeginsWithElements nation y (e ∷ es) r) b a)
meet nation bytes (e ∷ es) (f ∷ fs) r s a b =
    let one = one_element nation bytes e f a.0 b.0 a.1 b.1 in
    elim (meet nation b.0 es fs r s (subst (λ (y : List ℕ). BeginsWithElements nation y es r) one.1 a.2) b.2) [
      | inl m ↦ inl (m.0, (λ i. sym one.0 i ∷ m.1 i), m.2)
      | inr m ↦ inr (m.0, (λ i. one.0 i ∷ m.1 i), m.2)
    ]

is_there : (digits : ℕ) (es : List Element) (e : Element) (after : List Element) → digits ≡ first_digits e.identifier → value_at digits (es ++ e ∷ after) ≡ None → ⊥
is_there digits [] e after same none =
    eqb-false digits (first_digits e.identifier) ((taken (eqb digits (first_digits e.identifier)) e.value (value_at digits after) none).0) same
is_there digits (d ∷ es) e after same none = is_there digits es e after same ((taken (eqb digits (first_digits d.identifier)) d.value (value_at digits (es ++ e ∷ after)) none).1)

-- an element of distinct ones is none of those before it
distinct_before : (es : List Element) (e : Element) (after : List Element) → AreDistinct (es ++ e ∷ after) → value_of es e.identifier ≡ None
distinct_before [] e after once = refl
distinct_before (d ∷ es) e after once =
    let apart = ne_eqb (first_digits e.identifier) (first_digits d.identifier) (λ same. is_there (first_digits d.identifier) es e after (sym same) once.0) in
    ap (λ t. cond t (Some d.value) (value_of es e.identifier)) apart ∙ distinct_before es e after once.1

-- an element begins at the end of a reading only if it repeats one
repeats : (nation : Option National) (es : List Element) (rest : List ℕ) (stop : Stop) (e : Element) (behind : List ℕ) → StopsAt nation es rest stop → BeginsWith nation rest e behind
    → (stop ≡ at_repeated e.identifier) × (value_of es e.identifier ≢ None)
repeats nation es rest at_end e behind stops begins = absurd (omega (arith, ap length stops, behind_shorter nation rest e behind begins))
repeats nation es rest at_unknown e behind stops begins = absurd (stops.none e.identifier _ begins.known begins.these)
repeats nation es rest (at_short i) e behind stops begins =
    let same = same_identifier nation e.identifier i _ _ begins.known stops.known (sym begins.these ∙ stops.these) in
    absurd (stops.none e.value behind (subst (λ (k : ApplicationIdentifier). BeginsWith nation rest (record { identifier = k; value = e.value }) behind) same begins))
repeats nation es rest (at_repeated i) e behind stops begins =
    let one = one_element nation rest e (record { identifier = i; value = stops.value }) behind stops.rest begins stops.begins in
    let same : e.identifier ≡ i = ap (λ (x : Element). x.identifier) one.0 in
    (ap (λ (k : ApplicationIdentifier). at_repeated k) (sym same), λ none. stops.before (ap (λ (k : ApplicationIdentifier). value_of es k) (sym same) ∙ none))

-- so a reading that stops does not go on
ends_there : (nation : Option National) (es after : List Element) (rest end : List ℕ) (stop : Stop) → StopsAt nation es rest stop → BeginsWithElements nation rest after end → AreDistinct (es ++ after) → after ≡ []
ends_there nation es [] rest end stop stops goes once = refl
ends_there nation es (e ∷ after) rest end stop stops goes once = absurd ((repeats nation es rest stop e goes.0 stops goes.1).1 (distinct_before es e after once))

-- and stops for one reason
one_stop : (nation : Option National) (es : List Element) (rest : List ℕ) (p q : Stop) → StopsAt nation es rest p → StopsAt nation es rest q → p ≡ q
one_stop nation es rest p (at_repeated j) a b = (repeats nation es rest p (record { identifier = j; value = b.value }) b.rest a b.begins).0
one_stop nation es rest (at_repeated i) q a b = sym ((repeats nation es rest q (record { identifier = i; value = a.value }) a.rest b a.begins).0)
one_stop nation es rest at_end at_end a b = refl
one_stop nation es rest at_end at_unknown a b = absurd (b.some a)
one_stop nation es rest at_end (at_short j) a b = absurd (omega (arith, ap length (sym a ∙ b.these), identifier_long j b.content))
one_stop nation es rest at_unknown at_end a b = absurd (a.some b)
one_stop nation es rest at_unknown at_unknown a b = refl
one_stop nation es rest at_unknown (at_short j) a b = absurd (a.none j b.content b.known b.these)
one_stop nation es rest (at_short i) at_end a b = absurd (omega (arith, ap length (sym b ∙ a.these), identifier_long i a.content))
one_stop nation es rest (at_short i) at_unknown a b = absurd (b.none i a.content a.known a.these)
one_stop nation es rest (at_short i) (at_short j) a b =
    ap (λ (k : ApplicationIdentifier). at_short k) (same_identifier nation i j _ _ a.known b.known (sym a.these ∙ b.these))

same_text : (o : Option (List ℕ)) (t u : Text) → o ≡ Some t.bytes → o ≡ Some u.bytes → t ≡ u
same_text o t u a b =
    let both : Some t.bytes ≡ Some u.bytes = sym a ∙ b in
    let same : t.bytes ≡ u.bytes = cc in
    λ k. record { bytes = same k }

same_national : (nation : Option National) (values : ApplicationIdentifier → Option (List ℕ)) (p q : Option Text) → HasNational nation values p → HasNational nation values q → p ≡ q
same_national None values None None a b = refl
same_national None values None (Some q) a b = absurd b
same_national None values (Some p) q a b = absurd a
same_national (Some n) values None q a b = absurd a
same_national (Some n) values (Some p) None a b = absurd b
same_national (Some n) values (Some p) (Some q) a b = ap (λ (t : Text). Some t) (same_text (values (identifiers.NationalNumber n)) p q a.0 b.0)

-- values are those of one pack
one_pack : (nation : Option National) (values : ApplicationIdentifier → Option (List ℕ)) (p q : Elements) → ArePack nation values p → ArePack nation values q → p ≡ q
one_pack nation values p q a b = λ k. record {
  code = same_text (values identifiers.Code) p.code q.code a.code b.code k;
  serial = same_text (values identifiers.Serial) p.serial q.serial a.serial b.serial k;
  batch = same_text (values identifiers.Batch) p.batch q.batch a.batch b.batch k;
  expiry = same_text (values identifiers.Expiry) p.expiry q.expiry a.expiry b.expiry k;
  national = same_national nation values p.national q.national a.national b.national k;
}

one_by : (missing wrong : Option ApplicationIdentifier) (nation : Option National) (values : ApplicationIdentifier → Option (List ℕ)) (r s : Result Elements ScanFault)
    → ReadsBy missing wrong nation values r → ReadsBy missing wrong nation values s → r ≡ s
one_by (Some i) wrong nation values r s a b = a ∙ sym b
one_by None (Some i) nation values r s a b = a ∙ sym b
one_by None None nation values r s a b = a.1 ∙ ap (λ (p : Elements). Ok p) (one_pack nation values a.0 b.0 a.2 b.2) ∙ sym b.1

one_end : (nation : Option National) (size : ℕ) (es : List Element) (rest : List ℕ) (stop : Stop) (r s : Result Elements ScanFault) → ReadsStop nation size es rest stop r → ReadsStop nation size es rest stop s → r ≡ s
one_end nation size es rest at_end r s a b = one_by (find (is_missing (value_of es)) (required nation)) (find (has_wrong (value_of es)) (required nation)) nation (value_of es) r s a b
one_end nation size es rest at_unknown r s a b = a ∙ sym b
one_end nation size es rest (at_short i) r s a b = a ∙ sym b
one_end nation size es rest (at_repeated i) r s a b = a ∙ sym b

-- if one reading ends at the end of the other, both are one
same_end : (nation : Option National) (size : ℕ) (es fs : List Element) (rest end : List ℕ) (p q : Stop) (r s : Result Elements ScanFault) → es ≡ fs → rest ≡ end → StopsAt nation es rest p → StopsAt nation fs end q
    → ReadsStop nation size es rest p r → ReadsStop nation size fs end q s → r ≡ s
same_end nation size es fs rest end p q r s same left a b reads reads_too =
    let there : StopsAt nation fs end p = subst (λ (y : List ℕ). StopsAt nation fs y p) left (subst (λ (x : List Element). StopsAt nation x rest p) same a) in
    let stop : p ≡ q = one_stop nation fs end p q there b in
    let told : ReadsStop nation size fs end p r = subst (λ (y : List ℕ). ReadsStop nation size fs y p r) left (subst (λ (x : List Element). ReadsStop nation size x rest p r) same reads) in
    one_end nation size fs end q r s (subst (λ (x : Stop). ReadsStop nation size fs end x r) stop told) reads_too

one_string : (nation : Option National) (size : ℕ) (bytes : List ℕ) (r s : Result Elements ScanFault) → ReadsString nation size bytes r → ReadsString nation size bytes s → r ≡ s
one_string nation size bytes r s a b = elim (meet nation bytes a.elements b.elements a.rest b.rest a.these b.these) [
  | inl m ↦
      let none = ends_there nation a.elements m.0 a.rest b.rest a.stop a.stops m.2 (subst AreDistinct m.1 b.once) in
      let same : a.elements ≡ b.elements = sym (append-nil a.elements) ∙ ap (λ (x : List Element). a.elements ++ x) (sym none) ∙ sym m.1 in
      let left : a.rest ≡ b.rest = subst (λ (x : List Element). BeginsWithElements nation a.rest x b.rest) none m.2 in
      same_end nation size a.elements b.elements a.rest b.rest a.stop b.stop r s same left a.stops b.stops a.reads b.reads
  | inr m ↦
      let none = ends_there nation b.elements m.0 b.rest a.rest b.stop b.stops m.2 (subst AreDistinct m.1 a.once) in
      let same : b.elements ≡ a.elements = sym (append-nil b.elements) ∙ ap (λ (x : List Element). b.elements ++ x) (sym none) ∙ sym m.1 in
      let left : b.rest ≡ a.rest = subst (λ (x : List Element). BeginsWithElements nation b.rest x a.rest) none m.2 in
      sym (same_end nation size b.elements a.elements b.rest a.rest b.stop a.stop s r same left b.stops a.stops b.reads a.reads)
]

one_behind : (nation : Option National) (size : ℕ) (opened : Result (List ℕ) ScanFault) (r s : Result Elements ScanFault) → ReadsBehind nation size opened r → ReadsBehind nation size opened s → r ≡ s
one_behind nation size (Err fault) r s a b = a ∙ sym b
one_behind nation size (Ok string) r s a b = one_string nation size (skip_separator string) r s a b

pub one_reading : (nation : Option National) (scan : List ℕ) (r s : Result Elements ScanFault) → ReadsScan nation scan r → ReadsScan nation scan s → r ≡ s
one_reading nation scan r s a b = one_behind nation (length scan) _ r s a b
