-- Strings and scans that are read as a pack.
use Rattle.std.proofs.Common.{◌≡◌, ◌++◌, ℕ, Bool, true, false, cond, eqb, List, [], ◌∷◌, length, take, drop, Option, Some, None, IfSome, Result, Ok, Err, nat_lt, refl, sym, ap, ◌∙◌, subst, take-append-drop, codes}
use Rattle.std.specs.List.{find, list_any}
use Rattle.std.specs.Str.{bytes_eq}
use Rattle.std.proofs.lemmas.List.{append_assoc}
use Rattle.nmvs_identifier.specs.Texts.{Text}
use Rattle.nmvs_elements.specs.declared.identifiers.National.{National}
use Rattle.nmvs_elements.specs.declared.identifiers.ApplicationIdentifier.{ApplicationIdentifier}
use Rattle.nmvs_elements.specs.declared.identifiers.ApplicationIdentifier.TheVariants as identifiers
use Rattle.nmvs_elements.specs.declared.elements.Elements.{Elements}
use Rattle.nmvs_elements.specs.declared.fault.ScanFault.{ScanFault}
use Rattle.nmvs_elements.specs.declared.fault.ScanFault.TheVariants as faults
use Rattle.nmvs_elements.specs.Elements.{Element, first_digits, identifier_text, required, skip_separator, BeginsWithElements, value_at, value_of, AreDistinct}
use Rattle.nmvs_elements.specs.Scan.{Stop, StopsAt, HasNational, ArePack, ReadsBy, ReadsStop, ReadsString, ReadsBehind, ReadsScan, is_missing, has_wrong, symbologies, behind_symbology, longest_scan, at_end, at_unknown, at_short, at_repeated}
use Rattle.nmvs_elements.specs.Laws.{IsPiece, ValuesArePieces}

-- the elements of a string that is read as a pack
pub record IsRead (nation : Option National) (bytes : List ℕ) (pack : Elements) : Type 0 where
  pub elements : List Element
  pub these : BeginsWithElements nation bytes elements []
  pub once : AreDistinct elements
  pub values : ArePack nation (value_of elements) pack

by_pack : (missing wrong : Option ApplicationIdentifier) (nation : Option National) (values : ApplicationIdentifier → Option (List ℕ)) (pack : Elements) → ReadsBy missing wrong nation values (Ok pack) → ArePack nation values pack
by_pack (Some i) wrong nation values pack reads = absurd cc
by_pack None (Some i) nation values pack reads = absurd cc
by_pack None None nation values pack reads =
    let told = reads.1 in
    let same : reads.0 ≡ pack = cc in
    subst (λ (p : Elements). ArePack nation values p) same reads.2

stopped_pack : (nation : Option National) (size : ℕ) (es : List Element) (rest : List ℕ) (stop : Stop) (pack : Elements) → StopsAt nation es rest stop → ReadsStop nation size es rest stop (Ok pack)
    → (rest ≡ []) × ArePack nation (value_of es) pack
stopped_pack nation size es rest at_end pack stops reads =
    (stops, by_pack (find (is_missing (value_of es)) (required nation)) (find (has_wrong (value_of es)) (required nation)) nation (value_of es) pack reads)
stopped_pack nation size es rest at_unknown pack stops reads = absurd cc
stopped_pack nation size es rest (at_short i) pack stops reads = absurd cc
stopped_pack nation size es rest (at_repeated i) pack stops reads = absurd cc

pub string_read : (nation : Option National) (size : ℕ) (bytes : List ℕ) (pack : Elements) → ReadsString nation size bytes (Ok pack) → IsRead nation bytes pack
string_read nation size bytes pack is =
    let end = stopped_pack nation size is.elements is.rest is.stop pack is.stops is.reads in
    record { elements = is.elements; these = subst (λ (y : List ℕ). BeginsWithElements nation bytes is.elements y) end.0 is.these; once = is.once; values = end.1 }

pub opened_read : (nation : Option National) (size : ℕ) (opened : Result (List ℕ) ScanFault) (pack : Elements) → ReadsBehind nation size opened (Ok pack)
    → (string : List ℕ) × (opened ≡ Ok string) × IsRead nation (skip_separator string) pack
opened_read nation size (Err fault) pack reads = absurd cc
opened_read nation size (Ok string) pack reads = (string, refl, string_read nation size (skip_separator string) pack reads)

not_long : (long : Bool) (opened : Result (List ℕ) ScanFault) (string : List ℕ) → cond long (Err faults.Long) opened ≡ Ok string → opened ≡ Ok string
not_long true opened string e = absurd cc
not_long false opened string e = e

-- a scan that is read as a pack
pub scan_read : (nation : Option National) (scan : List ℕ) (pack : Elements) → ReadsScan nation scan (Ok pack) → (string : List ℕ) × (behind_symbology scan ≡ Ok string) × IsRead nation (skip_separator string) pack
scan_read nation scan pack reads =
    let opened = opened_read nation (length scan) (cond (nat_lt longest_scan (length scan)) (Err faults.Long) (behind_symbology scan)) pack reads in
    (opened.0, not_long (nat_lt longest_scan (length scan)) (behind_symbology scan) opened.0 opened.1, opened.2)

-- a piece of the bytes after a front is a piece of the whole
piece_behind : (bytes front rest v : List ℕ) → bytes ≡ front ++ rest → IsPiece rest v → IsPiece bytes v
piece_behind bytes front rest v these is = (front ++ is.0, is.1, these ∙ ap (λ y. front ++ y) is.2 ∙ sym (append_assoc front is.0 (v ++ is.1)))

skip_front : (bytes : List ℕ) → (front : List ℕ) × (bytes ≡ front ++ skip_separator bytes)
skip_front [] = ([], refl)
skip_front (b ∷ bs) = elim (eqb b 29) as (λ t. (front : List ℕ) × (b ∷ bs ≡ front ++ cond t bs (b ∷ bs))) [ true ↦ (b ∷ [], refl) | false ↦ ([], refl) ]

value_piece : (nation : Option National) (bytes : List ℕ) (es : List Element) (rest : List ℕ) (digits : ℕ) (v : List ℕ) → BeginsWithElements nation bytes es rest → value_at digits es ≡ Some v → IsPiece bytes v
value_piece nation bytes [] rest digits v these found = absurd cc
value_piece nation bytes (e ∷ es) rest digits v these found =
    here (eqb digits (first_digits e.identifier)) found (λ (found : value_at digits es ≡ Some v). value_piece nation these.0 es rest digits v these.2 found)
  where
    here : (t : Bool) → cond t (Some e.value) (value_at digits es) ≡ Some v → (value_at digits es ≡ Some v → IsPiece these.0 v) → IsPiece bytes v
    here true found behind =
        let same : e.value ≡ v = cc in
        (identifier_text e.identifier, these.1.behind, these.1.these ∙ ap (λ y. identifier_text e.identifier ++ (y ++ these.1.behind)) same)
    here false found behind =
        let front = skip_front these.1.behind in
        let cut : these.1.behind ≡ front.0 ++ these.0 = front.1 ∙ ap (λ y. front.0 ++ y) (sym these.1.skipped) in
        piece_behind bytes (identifier_text e.identifier ++ (e.value ++ front.0)) these.0 v
        (these.1.these ∙ ap (λ y. identifier_text e.identifier ++ (e.value ++ y)) cut
        ∙ ap (λ y. identifier_text e.identifier ++ y) (sym (append_assoc e.value front.0 these.0)) ∙ sym (append_assoc (identifier_text e.identifier) (e.value ++ front.0) these.0))
        (behind found)

opened_front : (a b c : Bool) (scan string : List ℕ) → cond a (Ok (drop 3 scan)) (cond b (Err faults.PlainDataMatrix) (cond c (Err faults.Symbology) (Ok scan))) ≡ Ok string → (front : List ℕ) × (scan ≡ front ++ string)
opened_front true b c scan string e =
    let same : drop 3 scan ≡ string = cc in
    (take 3 scan, sym (take-append-drop 3 scan) ∙ ap (λ y. take 3 scan ++ y) same)
opened_front false true c scan string e = absurd cc
opened_front false false true scan string e = absurd cc
opened_front false false false scan string e =
    let same : scan ≡ string = cc in
    ([], same)

-- the values that are read as a pack's are pieces of the scan
pub pieces : ValuesArePieces
pieces nation scan pack reads =
    let read = scan_read nation scan pack reads in
    let front = opened_front (list_any (bytes_eq (take 3 scan)) symbologies) (bytes_eq (take 3 scan) (codes "]d1")) (bytes_eq (take 1 scan) (codes "]")) scan read.0 read.1 in
    let skipped = skip_front read.0 in
    let cut : scan ≡ (front.0 ++ skipped.0) ++ skip_separator read.0 = front.1 ∙ ap (λ y. front.0 ++ y) skipped.1 ∙ sym (append_assoc front.0 skipped.0 (skip_separator read.0)) in
    let is = read.2 in
    let piece : (digits : ℕ) (v : List ℕ) → value_at digits is.elements ≡ Some v → IsPiece scan v = λ digits v found.
    piece_behind scan (front.0 ++ skipped.0) (skip_separator read.0) v cut (value_piece nation (skip_separator read.0) is.elements [] digits v is.these found) in (
      piece 1 pack.code.bytes is.values.code,
      piece 21 pack.serial.bytes is.values.serial,
      piece 10 pack.batch.bytes is.values.batch,
      piece 17 pack.expiry.bytes is.values.expiry,
      national nation pack.national (value_of is.elements) is.values.national (λ n v found. piece 71 v found),
    )
  where
    national : (nation : Option National) (number : Option Text) (values : ApplicationIdentifier → Option (List ℕ)) → HasNational nation values number
        → ((n : National) (v : List ℕ) → values (identifiers.NationalNumber n) ≡ Some v → IsPiece scan v) → IfSome number (λ t. IsPiece scan t.bytes)
    national None None values has piece = tt
    national None (Some t) values has piece = absurd has
    national (Some n) None values has piece = absurd has
    national (Some n) (Some t) values has piece = piece n t.bytes has.0
