-- Printed codes of packs, whole and with separators lost.
use Rattle.std.proofs.Common.{◌≡◌, ◌++◌, ◌+◌, ◌≤◌, ◌<◌, ◌&&◌, not, ℕ, Bool, true, false, cond, eqb, List, [], ◌∷◌, length, Option, Some, None, IfSome, Result, Ok, Err, nat_lt, refl, sym, ap, ◌∙◌, subst, arith, inl, inr, ne_eqb, le-ltb}
use Rattle.std.specs.List.{list_all, AllByRecursion}
use Rattle.std.proofs.lemmas.List.{length-append}
use Rattle.nmvs_elements.specs.declared.identifiers.National.{National}
use Rattle.nmvs_elements.specs.declared.identifiers.ApplicationIdentifier.{ApplicationIdentifier}
use Rattle.nmvs_elements.specs.declared.identifiers.ApplicationIdentifier.TheVariants as identifiers
use Rattle.nmvs_elements.specs.declared.elements.Elements.{Elements}
use Rattle.nmvs_elements.specs.declared.fault.ScanFault.{ScanFault}
use Rattle.nmvs_elements.specs.declared.fault.ScanFault.TheVariants as faults
use Rattle.nmvs_elements.specs.Elements.{Element, identifier_text, predefined_length, is_value_byte, IsKnown, EndsValue, skip_separator, BeginsWithElements, value_of, AreDistinct}
use Rattle.nmvs_elements.specs.Scan.{ReadsString, ReadsBehind, ReadsScan, behind_symbology, at_end}
use Rattle.nmvs_elements.specs.Laws.{Printed, separator_where, printed_text, elements_of, IsNeeded, AreSeparated, IsPackCode, IsSymbology, scan_of, ScansAreRead}
use Rattle.nmvs_elements.proofs.ValueFacts.{reads_pack}
use Rattle.nmvs_elements.proofs.Counts.{HasLength, longest_value, IsWhole, whole_value, pack_value, each_value, one_at_most, room, room_of, room_more}

-- an element of a pack's code, as far as its ends go
pub record IsFine (nation : Option National) (p : Printed) : Type 0 where
  pub known : IsKnown nation p.element.identifier
  pub plain : list_all is_value_byte (identifier_text p.element.identifier) ≡ true
  pub whole : IsWhole p.element.identifier p.element.value

-- no application identifier has a separator
plain_text : (nation : Option National) (i : ApplicationIdentifier) → IfSome nation (λ n. (48 ≤ n.digit) × (n.digit ≤ 54)) → IsKnown nation i → list_all is_value_byte (identifier_text i) ≡ true
plain_text nation identifiers.Code digits known = refl
plain_text nation identifiers.Serial digits known = refl
plain_text nation identifiers.Batch digits known = refl
plain_text nation identifiers.Expiry digits known = refl
plain_text nation (identifiers.NationalNumber n) digits known =
    let bounds = subst (λ (o : Option National). IfSome o (λ n. (48 ≤ n.digit) × (n.digit ≤ 54))) known digits in
    ap (λ t. not t && true) (other n.digit bounds.0)
  where
    other : (d : ℕ) → 48 ≤ d → eqb d 29 ≡ false
    other d low = ne_eqb d 29 (λ e. omega (arith, e, low))

pub known_elements : (nation : Option National) (ps : List Printed) → AllByRecursion (λ (p : Printed). IsKnown nation p.element.identifier) ps → AllByRecursion (λ (e : Element). IsKnown nation e.identifier) (elements_of ps)
known_elements nation [] known = tt
known_elements nation (p ∷ ps) known = (known.0, known_elements nation ps known.1)

all_fine : (nation : Option National) (ps : List Printed) → IfSome nation (λ n. (48 ≤ n.digit) × (n.digit ≤ 54)) → AllByRecursion (λ (p : Printed). IsKnown nation p.element.identifier) ps
    → AllByRecursion (λ (e : Element). IsWhole e.identifier e.value) (elements_of ps) → AllByRecursion (IsFine nation) ps
all_fine nation [] digits known whole = tt
all_fine nation (p ∷ ps) digits known whole =
    (record { known = known.0; plain = plain_text nation p.element.identifier digits known.0; whole = whole.0 }, all_fine nation ps digits known.1 whole.1)

pub pack_fine : (nation : Option National) (ps : List Printed) (pack : Elements) → IsPackCode nation ps pack → AllByRecursion (IsFine nation) ps
pack_fine nation ps pack is =
    all_fine nation ps is.nation_known is.known (each_value IsWhole nation (elements_of ps) (known_elements nation ps is.known) is.once
    (λ i v known found. whole_value i v (pack_value nation (value_of (elements_of ps)) pack i v is.values known found)))

-- a text of elements begins with a digit
digit_first : (i : ApplicationIdentifier) (x : List ℕ) → skip_separator (identifier_text i ++ x) ≡ identifier_text i ++ x
digit_first identifiers.Code x = refl
digit_first identifiers.Serial x = refl
digit_first identifiers.Batch x = refl
digit_first identifiers.Expiry x = refl
digit_first (identifiers.NationalNumber n) x = refl

skip_printed : (ps : List Printed) → skip_separator (printed_text ps) ≡ printed_text ps
skip_printed [] = refl
skip_printed (p ∷ ps) = digit_first p.element.identifier (p.element.value ++ (separator_where p.separated ++ printed_text ps))

pub skip_mark : (b : Bool) (ps : List Printed) → skip_separator (separator_where b ++ printed_text ps) ≡ printed_text ps
skip_mark true ps = refl
skip_mark false ps = skip_printed ps

later_separated : (p : Printed) (ps : List Printed) → AreSeparated (p ∷ ps) → AreSeparated ps
later_separated p [] are = tt
later_separated p (q ∷ ps) are = are.1

-- a value ends if a separator stands after it, or if it needs none
ends_printed : (predefined : Option ℕ) (v : List ℕ) (b : Bool) (ps : List Printed) → HasLength predefined v → (0 < length ps → IsNeeded predefined b) → EndsValue predefined v (separator_where b ++ printed_text ps)
ends_printed (Some n) v b ps sized needed = sized
ends_printed None v true ps sized needed = refl
ends_printed None v false [] sized needed = tt
ends_printed None v false (p ∷ ps) sized needed = let h : false ≡ true = needed (omega arith) in absurd cc

needed_first : (p : Printed) (ps : List Printed) → AreSeparated (p ∷ ps) → 0 < length ps → IsNeeded (predefined_length p.element.identifier) p.separated
needed_first p [] are some = absurd (omega (arith, some))
needed_first p (q ∷ ps) are some = are.0

-- the elements of a printed code are read
printed_reads : (nation : Option National) (ps : List Printed) → AllByRecursion (IsFine nation) ps → AreSeparated ps → BeginsWithElements nation (printed_text ps) (elements_of ps) []
printed_reads nation [] fine are = refl
printed_reads nation (p ∷ ps) fine are = (
  printed_text ps,
  record {
    behind = separator_where p.separated ++ printed_text ps;
    these = refl;
    known = fine.0.known;
    one_piece = fine.0.whole.one_piece;
    ends = ends_printed (predefined_length p.element.identifier) p.element.value p.separated ps fine.0.whole.sized (needed_first p ps are);
    skipped = sym (skip_mark p.separated ps);
  },
  printed_reads nation ps fine.1 (later_separated p ps are),
)

-- its length
room_fits : (i : ApplicationIdentifier) → length (identifier_text i) + longest_value i + 1 ≤ room_of i
room_fits identifiers.Code = omega arith
room_fits identifiers.Serial = omega arith
room_fits identifiers.Batch = omega arith
room_fits identifiers.Expiry = omega arith
room_fits (identifiers.NationalNumber n) = omega arith

mark_short : (b : Bool) → length (separator_where b) ≤ 1
mark_short true = omega arith
mark_short false = omega arith

text_room : (nation : Option National) (ps : List Printed) → AllByRecursion (IsFine nation) ps → AreDistinct (elements_of ps) → length (printed_text ps) ≤ room (elements_of ps)
text_room nation [] fine once = omega arith
text_room nation (p ∷ ps) fine once =
    let i = p.element.identifier in
    let v = p.element.value in
    let sizes : length (printed_text (p ∷ ps)) ≡ length (identifier_text i) + (length v + (length (separator_where p.separated) + length (printed_text ps))) =
    length-append (identifier_text i) (v ++ (separator_where p.separated ++ printed_text ps))
    ∙ ap (λ n. length (identifier_text i) + n) (length-append v (separator_where p.separated ++ printed_text ps)
    ∙ ap (λ n. length v + n) (length-append (separator_where p.separated) (printed_text ps))) in
    omega (arith, sizes, room_fits i, fine.0.whole.short, mark_short p.separated, text_room nation ps fine.1 once.1, room_more i v (elements_of ps) once.0)

pub room_small : (es : List Element) → room es ≤ 96
room_small es = omega (arith, one_at_most 1 es, one_at_most 21 es, one_at_most 10 es, one_at_most 17 es, one_at_most 71 es)

-- a scan of it begins with its symbology identifier
opens_plain : (i : ApplicationIdentifier) (b : Bool) (x : List ℕ) → behind_symbology (separator_where b ++ (identifier_text i ++ x)) ≡ Ok (separator_where b ++ (identifier_text i ++ x))
opens_plain i true x = refl
opens_plain identifiers.Code false x = refl
opens_plain identifiers.Serial false x = refl
opens_plain identifiers.Batch false x = refl
opens_plain identifiers.Expiry false x = refl
opens_plain (identifiers.NationalNumber n) false x = refl

symbology_short : (symbology : List ℕ) → IsSymbology symbology → length symbology ≤ 3
symbology_short s (inl e) = omega (arith, ap length e)
symbology_short s (inr (inl e)) = omega (arith, ap length e)
symbology_short s (inr (inr (inl e))) = omega (arith, ap length e)
symbology_short s (inr (inr (inr (inl e)))) = omega (arith, ap length e)
symbology_short s (inr (inr (inr (inr (inl e))))) = omega (arith, ap length e)
symbology_short s (inr (inr (inr (inr (inr none))))) = absurd none

pub opens : (symbology : List ℕ) (b : Bool) (p : Printed) (ps : List Printed) → IsSymbology symbology
    → behind_symbology (scan_of symbology b (p ∷ ps)) ≡ Ok (separator_where b ++ printed_text (p ∷ ps))
opens s b p ps (inl e) =
    ap (λ (y : List ℕ). behind_symbology (y ++ (separator_where b ++ printed_text (p ∷ ps)))) e
    ∙ opens_plain p.element.identifier b (p.element.value ++ (separator_where p.separated ++ printed_text ps))
opens s b p ps (inr (inl e)) = ap (λ (y : List ℕ). behind_symbology (y ++ (separator_where b ++ printed_text (p ∷ ps)))) e
opens s b p ps (inr (inr (inl e))) = ap (λ (y : List ℕ). behind_symbology (y ++ (separator_where b ++ printed_text (p ∷ ps)))) e
opens s b p ps (inr (inr (inr (inl e)))) = ap (λ (y : List ℕ). behind_symbology (y ++ (separator_where b ++ printed_text (p ∷ ps)))) e
opens s b p ps (inr (inr (inr (inr (inl e))))) = ap (λ (y : List ℕ). behind_symbology (y ++ (separator_where b ++ printed_text (p ∷ ps)))) e
opens s b p ps (inr (inr (inr (inr (inr none))))) = absurd none

-- and is short enough
scan_short : (nation : Option National) (symbology : List ℕ) (b : Bool) (ps : List Printed) → IsSymbology symbology → AllByRecursion (IsFine nation) ps → AreDistinct (elements_of ps)
    → length (scan_of symbology b ps) ≤ 100
scan_short nation symbology b ps is fine once =
    omega (
      arith,
      length-append symbology (separator_where b ++ printed_text ps),
      length-append (separator_where b) (printed_text ps),
      symbology_short symbology is,
      mark_short b,
      text_room nation ps fine once,
      room_small (elements_of ps),
    )

pub reads_opened : (nation : Option National) (scan string : List ℕ) (result : Result Elements ScanFault) → length scan ≤ 100 → behind_symbology scan ≡ Ok string → ReadsString nation (length scan) (skip_separator string) result
    → ReadsScan nation scan result
reads_opened nation scan string result short opened reads =
    subst (λ (o : Result (List ℕ) ScanFault). ReadsBehind nation (length scan) o result) (sym (ap (λ t. cond t (Err faults.Long) (behind_symbology scan)) (not_long (length scan) short) ∙ opened)) reads
  where
    not_long : (n : ℕ) → n ≤ 100 → nat_lt 100 n ≡ false
    not_long n short = le-ltb 100 n short

-- each printed form is read
pub scans_are_read : ScansAreRead
scans_are_read nation symbology b [] pack is code are = let none = code.values.code in absurd cc
scans_are_read nation symbology b (p ∷ ps) pack is code are =
    let fine = pack_fine nation (p ∷ ps) pack code in
    let string = separator_where b ++ printed_text (p ∷ ps) in
    let these = subst (λ (y : List ℕ). BeginsWithElements nation y (elements_of (p ∷ ps)) []) (sym (skip_mark b (p ∷ ps))) (printed_reads nation (p ∷ ps) fine are) in
    reads_opened nation (scan_of symbology b (p ∷ ps)) string (Ok pack) (scan_short nation symbology b (p ∷ ps) is fine code.once) (opens symbology b p ps is)
    (record {
      elements = elements_of (p ∷ ps);
      rest = [];
      these = these;
      once = code.once;
      stop = at_end;
      stops = refl;
      reads = reads_pack nation (value_of (elements_of (p ∷ ps))) pack code.values;
    })
