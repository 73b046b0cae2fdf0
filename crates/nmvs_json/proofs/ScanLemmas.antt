-- The computed reading of a scan is that of nmvs_elements.
use Rattle.std.proofs.Common.{◌≡◌, ◌≢◌, ◌≤◌, ◌<◌, ◌-◌, ◌++◌, ℕ, zero, suc, Bool, true, false, not, ◌&&◌, ◌==◌, cond, List, [], ◌∷◌, length, take, drop, codes, Option, Some, None, is_none, is_some, Result, Ok, Err, refl, sym, ap, ◌∙◌, subst, arith, bytes_eq, take-append-drop}
use Rattle.std.specs.Prelude.{nat_lt}
use Rattle.std.specs.List.{AllByRecursion, find, list_all}
use Rattle.std.specs.Option.{unwrap_or}
use Rattle.std.proofs.lemmas.Bool.Decides.{nat_tests}
use Rattle.std.proofs.lemmas.Option.{same_Some}
use Rattle.std.proofs.lemmas.Slice.Eq.{bytes_eq-Decides}
use Rattle.nmvs_identifier.proofs.PlainTexts.{is_plain, plain_batch, plain_code, plain_expiry, plain_serial}
use Rattle.nmvs_elements.specs.declared.identifiers.ApplicationIdentifier.{ApplicationIdentifier}
use Rattle.nmvs_elements.specs.declared.identifiers.ApplicationIdentifier.TheVariants as identifiers
use Rattle.nmvs_elements.specs.declared.elements.Elements.{Elements}
use Rattle.nmvs_elements.specs.declared.fault.ScanFault.{ScanFault}
use Rattle.nmvs_elements.specs.declared.fault.ScanFault.TheVariants as faults
use Rattle.nmvs_elements.specs.Elements.{AreDistinct, BeginsWith, BeginsWithElements, Element, IsKnown, IsSeparated, identifier_text, is_value, is_value_byte, predefined_length, required, skip_separator, value_of}
use Rattle.nmvs_elements.specs.Scan.{IsShort, ReadsBehind, ReadsBy, ReadsScan, ReadsStop, ReadsString, ReadsValues, Stop, StopsAt, at_end, at_repeated, at_short, at_unknown, has_wrong, is_missing, is_wrong, unknown_fault}
use Rattle.nmvs_elements.proofs.ElementFacts.{begins, behind_shorter, distinct_more, one_more, short, skip_shorter}
use Rattle.nmvs_elements.proofs.OneReading.{one_reading}
use Rattle.nmvs_elements.proofs.Packs.{scan_read}
use Rattle.nmvs_elements.proofs.Runs.{no_value, value_before}
use Rattle.nmvs_elements.proofs.ValueFacts.{skipped}
use Rattle.nmvs_json.specs.Questions.{pack_texts, printed_texts, scan_printed}
use Rattle.nmvs_json.specs.Scans.{Reader, ScansAreComputed, identifier_at, pack_by, pack_of, pack_with, read_behind, read_element, read_rest, read_value, scan_in, value_end, value_with}

-- the bytes before the first separator
within : (content : List ℕ) → value_end content ≤ length content
within [] = omega arith
within (b ∷ bs) = by (b == 29) (within bs)
  where
    by : (t : Bool) → value_end bs ≤ length bs → cond t 0 (suc (value_end bs)) ≤ length (b ∷ bs)
    by true later = omega arith
    by false later = omega (arith, later)

run : (content : List ℕ) → list_all is_value_byte (take (value_end content) content) ≡ true
run [] = refl
run (b ∷ bs) = by (b == 29) refl (run bs)
  where
    by : (t : Bool) → (b == 29) ≡ t → list_all is_value_byte (take (value_end bs) bs) ≡ true → list_all is_value_byte (take (cond t 0 (suc (value_end bs))) (b ∷ bs)) ≡ true
    by true e later = refl
    by false e later = λ i. not (e i) && later i

is_mark : (b : ℕ) → (b == 29) ≡ true → b ≡ 29
is_mark b e = grind (arith, nat_tests)

separated : (content : List ℕ) → IsSeparated (drop (value_end content) content)
separated [] = tt
separated (b ∷ bs) = by (b == 29) refl (separated bs)
  where
    by : (t : Bool) → (b == 29) ≡ t → IsSeparated (drop (value_end bs) bs) → IsSeparated (drop (cond t 0 (suc (value_end bs))) (b ∷ bs))
    by true e later = is_mark b e
    by false e later = later

no_more : (m n : ℕ) → nat_lt m n ≡ false → n ≤ m
no_more m n e = grind (arith, nat_tests)

more : (m n : ℕ) → nat_lt m n ≡ true → m < n
more m n e = grind (arith, nat_tests)

-- an element stands at the front exactly if its value is found there
abbrev size_of : ApplicationIdentifier → List ℕ → ℕ
size_of i content = unwrap_or (predefined_length i) (value_end content)

abbrev cut_at : ApplicationIdentifier → List ℕ → List ℕ × List ℕ
cut_at i content = (take (size_of i content) content, skip_separator (drop (size_of i content) content))

abbrev element : ApplicationIdentifier → List ℕ → Element
element i value = record { identifier = i; value = value }

with_some : (bytes content : List ℕ) (i : ApplicationIdentifier) (first : List ℕ × List ℕ) → IsKnown None i → bytes ≡ identifier_text i ++ content → value_with i content ≡ Some first → BeginsWith None bytes (element i first.0) first.1
with_some bytes content i first known these e = by (nat_lt (value_end content) (size_of i content)) refl e
  where
    by : (t : Bool) → nat_lt (value_end content) (size_of i content) ≡ t → cond t None (Some (cut_at i content)) ≡ Some first → BeginsWith None bytes (element i first.0) first.1
    by true p e = absurd (cc e)
    by false p e =
        let size = size_of i content in
        let is = value_before (predefined_length i) content (take size content) (drop size content) (value_end content) size (within content) (run content) (separated content) refl (no_more (value_end content) size p) refl refl in
        subst (λ (f : List ℕ × List ℕ). BeginsWith None bytes (element i f.0) f.1) (same_Some (cut_at i content) first e)
        (begins None bytes content i (take size content) (drop size content) (skip_separator (drop size content)) known these is refl)

with_none : (bytes content : List ℕ) (i : ApplicationIdentifier) → IsKnown None i → bytes ≡ identifier_text i ++ content → value_with i content ≡ None → IsShort None bytes i
with_none bytes content i known these none = by (nat_lt (value_end content) (size_of i content)) refl none
  where
    by : (t : Bool) → nat_lt (value_end content) (size_of i content) ≡ t → cond t None (Some (cut_at i content)) ≡ None → IsShort None bytes i
    by true p none =
        short None bytes content i known these (no_value (predefined_length i) content (value_end content) (size_of i content) (within content) (separated content) refl (more (value_end content) (size_of i content) p))
    by false p none = absurd (cc none)

-- an identifier stands at the front exactly if it is found there
begins_with : (bytes text : List ℕ) → bytes_eq (take 2 bytes) text ≡ true → bytes ≡ text ++ drop 2 bytes
begins_with bytes text e = sym (take-append-drop 2 bytes) ∙ ap (λ (t : List ℕ). t ++ drop 2 bytes) ((bytes_eq-Decides (take 2 bytes) text).0 e)

abbrev Stands : List ℕ → ApplicationIdentifier → Type 0
Stands bytes i = IsKnown None i × (bytes ≡ identifier_text i ++ drop 2 bytes)

abbrev test : List ℕ → ApplicationIdentifier → Bool
test bytes i = bytes_eq (take 2 bytes) (identifier_text i)

stands : (bytes : List ℕ) (i : ApplicationIdentifier) → identifier_at bytes ≡ Some i → Stands bytes i
stands bytes i e = by (test bytes identifiers.Code) refl (test bytes identifiers.Serial) refl (test bytes identifiers.Batch) refl (test bytes identifiers.Expiry) refl e
  where
    by : (a : Bool) → test bytes identifiers.Code ≡ a → (b : Bool) → test bytes identifiers.Serial ≡ b → (c : Bool) → test bytes identifiers.Batch ≡ c → (d : Bool) → test bytes identifiers.Expiry ≡ d
        → cond a (Some identifiers.Code) (cond b (Some identifiers.Serial) (cond c (Some identifiers.Batch) (cond d (Some identifiers.Expiry) None))) ≡ Some i → Stands bytes i
    by true p b q c r d s e = subst (Stands bytes) (same_Some identifiers.Code i e) (tt, begins_with bytes (codes "01") p)
    by false p true q c r d s e = subst (Stands bytes) (same_Some identifiers.Serial i e) (tt, begins_with bytes (codes "21") q)
    by false p false q true r d s e = subst (Stands bytes) (same_Some identifiers.Batch i e) (tt, begins_with bytes (codes "10") r)
    by false p false q false r true s e = subst (Stands bytes) (same_Some identifiers.Expiry i e) (tt, begins_with bytes (codes "17") s)
    by false p false q false r false s e = absurd (cc e)

none_stands : (bytes : List ℕ) (i : ApplicationIdentifier) (content : List ℕ) → identifier_at bytes ≡ None → IsKnown None i → bytes ≡ identifier_text i ++ content → ⊥
none_stands bytes identifiers.Code content none known these = let e : Some identifiers.Code ≡ None = subst (λ (b : List ℕ). identifier_at b ≡ None) these none in cc e
none_stands bytes identifiers.Serial content none known these = let e : Some identifiers.Serial ≡ None = subst (λ (b : List ℕ). identifier_at b ≡ None) these none in cc e
none_stands bytes identifiers.Batch content none known these = let e : Some identifiers.Batch ≡ None = subst (λ (b : List ℕ). identifier_at b ≡ None) these none in cc e
none_stands bytes identifiers.Expiry content none known these = let e : Some identifiers.Expiry ≡ None = subst (λ (b : List ℕ). identifier_at b ≡ None) these none in cc e
none_stands bytes (identifiers.NationalNumber n) content none known these = cc known

-- the pack of values is that of elements with these
record NoneOf (test : ApplicationIdentifier → Bool) : Type 0 where
  code : test identifiers.Code ≡ false
  serial : test identifiers.Serial ≡ false
  batch : test identifiers.Batch ≡ false
  expiry : test identifiers.Expiry ≡ false

none_of : (test : ApplicationIdentifier → Bool) → find test (required None) ≡ None → NoneOf test
none_of test e =
    let code = skipped test identifiers.Code (identifiers.Serial ∷ identifiers.Batch ∷ identifiers.Expiry ∷ []) e in
    let serial = skipped test identifiers.Serial (identifiers.Batch ∷ identifiers.Expiry ∷ []) code.1 in
    let batch = skipped test identifiers.Batch (identifiers.Expiry ∷ []) serial.1 in
    let expiry = skipped test identifiers.Expiry [] batch.1 in
    record { code = code.0; serial = serial.0; batch = batch.0; expiry = expiry.0 }

record HasValue (i : ApplicationIdentifier) (o : Option (List ℕ)) : Type 0 where
  some : o ≡ Some (unwrap_or o [])
  right : is_value i (unwrap_or o []) ≡ true

has : (i : ApplicationIdentifier) (o : Option (List ℕ)) → is_none o ≡ false → is_wrong i o ≡ false → HasValue i o
has i None there right = absurd (cc there)
has i (Some v) there right = record { some = refl; right = by (is_value i v) right }
  where
    by : (b : Bool) → not b ≡ false → b ≡ true
    by true e = refl
    by false e = absurd (cc e)

pack_read : (values : ApplicationIdentifier → Option (List ℕ)) → ReadsValues None values (pack_of values)
pack_read values = by (find (is_missing values) (required None)) refl (find (has_wrong values) (required None)) refl
  where
    by : (m : Option ApplicationIdentifier) → find (is_missing values) (required None) ≡ m → (w : Option ApplicationIdentifier) → find (has_wrong values) (required None) ≡ w → ReadsBy m w None values (pack_by m w values)
    by (Some i) p w q = refl
    by None p (Some i) q = refl
    by None p None q =
        let there = none_of (is_missing values) p in
        let right = none_of (has_wrong values) q in
        let code = has identifiers.Code (values identifiers.Code) there.code right.code in
        let serial = has identifiers.Serial (values identifiers.Serial) there.serial right.serial in
        let batch = has identifiers.Batch (values identifiers.Batch) there.batch right.batch in
        let expiry = has identifiers.Expiry (values identifiers.Expiry) there.expiry right.expiry in (
          pack_with values,
          refl,
          record {
            code = code.some;
            serial = serial.some;
            batch = batch.some;
            expiry = expiry.some;
            national = tt;
            is_code = code.right;
            is_serial = serial.right;
            is_batch = batch.right;
            is_expiry = expiry.right;
          },
        )

-- an element more, or the reason why the reading stops
step : (size : ℕ) (string : List ℕ) (es : List Element) (rest : List ℕ) (reader : Reader) → rest ≢ [] → BeginsWithElements None string es rest → AreDistinct es
    → ((e : Element) (behind : List ℕ) → BeginsWith None rest e behind → value_of es e.identifier ≡ None → ReadsString None size string (reader (es ++ e ∷ []) behind))
    → ReadsString None size string (read_element reader size es rest (identifier_at rest))
step size string es rest reader some these once goes_on = by (identifier_at rest) refl
  where
    stopped : (fault : ScanFault) (stop : Stop) → StopsAt None es rest stop → ReadsStop None size es rest stop (Err fault) → ReadsString None size string (Err fault)
    stopped fault stop stops reads = record { elements = es; rest = rest; these = these; once = once; stop = stop; stops = stops; reads = reads }

    begun : (i : ApplicationIdentifier) (first : List ℕ × List ℕ) → BeginsWith None rest (element i first.0) first.1 → (o : Option (List ℕ)) → value_of es i ≡ o
        → ReadsString None size string (cond (is_some o) (Err (faults.Twice i)) (reader (es ++ element i first.0 ∷ []) first.1))
    begun i first begins None p = goes_on (element i first.0) first.1 begins p
    begun i first begins (Some v) p = stopped (faults.Twice i) (at_repeated i) (record { value = first.0; rest = first.1; begins = begins; before = λ none. cc (sym p ∙ none) }) refl

    valued : (i : ApplicationIdentifier) → Stands rest i → (o : Option (List ℕ × List ℕ)) → value_with i (drop 2 rest) ≡ o → ReadsString None size string (read_value reader es i o)
    valued i s None p = stopped (faults.Short i) (at_short i) (with_none rest (drop 2 rest) i s.0 s.1 p) refl
    valued i s (Some first) p = begun i first (with_some rest (drop 2 rest) i first s.0 s.1 p) (value_of es i) refl

    by : (o : Option ApplicationIdentifier) → identifier_at rest ≡ o → ReadsString None size string (read_element reader size es rest o)
    by None p = stopped (unknown_fault es (size - length rest)) at_unknown (record { some = some; none = λ i content known is. none_stands rest i content p known is }) refl
    by (Some i) p = valued i (stands rest i p) (value_with i (drop 2 rest)) refl

-- so a string is read, and a scan
abbrev IsRead : ℕ → ℕ → List ℕ → Type 0
IsRead n size string = (es : List Element) (rest : List ℕ) → length rest < n → BeginsWithElements None string es rest → AreDistinct es → ReadsString None size string (read_rest n size es rest)

rest_read : (n size : ℕ) (string : List ℕ) → IsRead n size string
rest_read zero size string es rest room these once = absurd (omega (arith, room))
rest_read (suc n) size string es [] room these once = record { elements = es; rest = []; these = these; once = once; stop = at_end; stops = refl; reads = pack_read (value_of es) }
rest_read (suc n) size string es (b ∷ bs) room these once = by (rest_read n size string)
  where
    by : IsRead n size string → ReadsString None size string (read_element (read_rest n size) size es (b ∷ bs) (identifier_at (b ∷ bs)))
    by later =
        step size string es (b ∷ bs) (read_rest n size) (λ e. cc e) these once
        (λ e behind begins none. later (es ++ e ∷ []) behind (omega (arith, behind_shorter None (b ∷ bs) e behind begins, room)) (one_more None string es (b ∷ bs) e behind these begins) (distinct_more es e once none))

behind_read : (size : ℕ) (opened : Result (List ℕ) ScanFault) → ReadsBehind None size opened (read_behind size opened)
behind_read size (Err fault) = refl
behind_read size (Ok string) = rest_read (suc (length string)) size (skip_separator string) [] (skip_separator string) (omega (arith, skip_shorter string)) refl tt

pub scans_read : ScansAreComputed
unfolding scan_in
scans_read scan = behind_read (length scan) _

pub scanned : (scan : List ℕ) (r : Result Elements ScanFault) → ReadsScan None scan r → r ≡ scan_in scan
scanned scan r reads = one_reading None scan r (scan_in scan) reads (scans_read scan)

-- the texts of the line of a scan have visible characters alone
abbrev ArePlain : List (List ℕ) → Type 0
ArePlain ts = AllByRecursion (λ (t : List ℕ). list_all is_plain t ≡ true) ts

pub texts_plain : (scan : List ℕ) → AllByRecursion (λ (t : List ℕ). list_all is_plain t ≡ true) (pack_texts (scan_in scan))
texts_plain scan = by (scan_in scan) (scans_read scan)
  where
    by : (r : Result Elements ScanFault) → ReadsScan None scan r → ArePlain (pack_texts r)
    by (Err fault) reads = (refl, (refl, tt))
    by (Ok pack) reads =
        let read = scan_read None scan pack reads in
        ((plain_code pack.code.bytes read.2.values.is_code).2, ((plain_serial pack.serial.bytes read.2.values.is_serial).2, tt))

pub printed_plain : (scan : List ℕ) → AllByRecursion (λ (t : List ℕ). list_all is_plain t ≡ true) (printed_texts (Some (scan_printed (scan_in scan))))
printed_plain scan = by (scan_in scan) (scans_read scan)
  where
    by : (r : Result Elements ScanFault) → ReadsScan None scan r → ArePlain (printed_texts (Some (scan_printed r)))
    by (Err fault) reads = (refl, (refl, tt))
    by (Ok pack) reads =
        let read = scan_read None scan pack reads in
        ((plain_batch pack.batch.bytes read.2.values.is_batch).2, ((plain_expiry pack.expiry.bytes read.2.values.is_expiry).2, tt))
