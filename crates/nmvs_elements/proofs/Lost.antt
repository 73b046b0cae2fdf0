-- A scan that lost separators has fewer elements than were printed.
use Rattle.std.proofs.Common.{◌≡◌, ◌++◌, ◌-◌, ◌≤◌, ◌<◌, ◌&&◌, ◌⊎◌, ℕ, zero, suc, Bool, true, false, List, [], ◌∷◌, length, Option, Some, None, Ok, refl, sym, ap, ◌∙◌, subst, arith, inl, inr}
use Rattle.std.specs.List.{list_all, AllByRecursion}
use Rattle.std.proofs.lemmas.Bool.{and_parts}
use Rattle.std.proofs.lemmas.List.{append_assoc}
use Rattle.std.proofs.lemmas.List.Folds.{list_all-append}
use Rattle.nmvs_elements.specs.declared.identifiers.National.{National}
use Rattle.nmvs_elements.specs.Elements.{Element, identifier_text, predefined_length, is_value_byte, IsKnown, IsSeparated, EndsValue, skip_separator, BeginsWithElements}
use Rattle.nmvs_elements.specs.Laws.{Printed, separator_where, printed_text, elements_of, IsLost, LackSeparators, scan_of, LostSeparatorsAreSeen}
use Rattle.nmvs_elements.proofs.Runs.{no_separator, same_halves, same_runs}
use Rattle.nmvs_elements.proofs.ElementFacts.{same_identifier, same_content, behind_shorter}
use Rattle.nmvs_elements.proofs.Packs.{scan_read}
use Rattle.nmvs_elements.proofs.Counts.{HasLength, pack_count}
use Rattle.nmvs_elements.proofs.Printed.{IsFine, known_elements, pack_fine, skip_mark, opens}

-- a run that ends at a separator or at the end has all of a front without separators
covers : (front rest w behind : List ℕ) → list_all is_value_byte front ≡ true → list_all is_value_byte w ≡ true → IsSeparated behind → front ++ rest ≡ w ++ behind
    → (more : List ℕ) × (list_all is_value_byte more ≡ true) × (rest ≡ more ++ behind)
covers [] rest w behind pf pw sb e = (w, pw, e)
covers (x ∷ front) rest [] [] pf pw sb e = absurd cc
covers (x ∷ front) rest [] (y ∷ behind) pf pw sb e =
    let heads : x ≡ y = cc in
    absurd (no_separator x ((and_parts (is_value_byte x) (list_all is_value_byte front) pf).0) (heads ∙ sb))
covers (x ∷ front) rest (y ∷ w) behind pf pw sb e =
    let tails : front ++ rest ≡ w ++ behind = cc in
    covers front rest w behind ((and_parts (is_value_byte x) (list_all is_value_byte front) pf).1) ((and_parts (is_value_byte y) (list_all is_value_byte w) pw).1) sb tails

-- the bytes after a run in a printed text are a printed text of fewer elements
record IsLater (nation : Option National) (ps : List Printed) (behind : List ℕ) : Type 0 where
  pub later : List Printed
  pub these : skip_separator behind ≡ printed_text later
  pub fine : AllByRecursion (IsFine nation) later
  pub fewer : length later ≤ length ps - 1

swallowed : (nation : Option National) (ps : List Printed) (w behind : List ℕ) → AllByRecursion (IsFine nation) ps → list_all is_value_byte w ≡ true → IsSeparated behind → printed_text ps ≡ w ++ behind
    → IsLater nation ps behind
swallowed nation [] [] [] fine pw sb e = record { later = []; these = refl; fine = tt; fewer = omega arith }
swallowed nation [] [] (y ∷ behind) fine pw sb e = absurd cc
swallowed nation [] (x ∷ w) behind fine pw sb e = absurd cc
swallowed nation (p ∷ ps) w behind fine pw sb e =
    here p.separated (append_assoc (identifier_text p.element.identifier) p.element.value (separator_where p.separated ++ printed_text ps) ∙ e)
    (λ (more : List ℕ) (pm : list_all is_value_byte more ≡ true) (em : printed_text ps ≡ more ++ behind). swallowed nation ps more behind fine.1 pm sb em)
  where
    plain : list_all is_value_byte (identifier_text p.element.identifier ++ p.element.value) ≡ true
    plain = list_all-append is_value_byte (identifier_text p.element.identifier) p.element.value ∙ (λ i. fine.0.plain i && fine.0.whole.one_piece i)

    here : (b : Bool) → (identifier_text p.element.identifier ++ p.element.value) ++ (separator_where b ++ printed_text ps) ≡ w ++ behind
        → ((more : List ℕ) → list_all is_value_byte more ≡ true → printed_text ps ≡ more ++ behind → IsLater nation ps behind) → IsLater nation (p ∷ ps) behind
    here true e later =
        let ends = (same_runs (identifier_text p.element.identifier ++ p.element.value) w (29 ∷ printed_text ps) behind plain pw refl sb e).1 in
        record { later = ps; these = ap skip_separator (sym ends); fine = fine.1; fewer = omega arith }
    here false e later =
        let more = covers (identifier_text p.element.identifier ++ p.element.value) (printed_text ps) w behind plain pw sb e in
        let is = later more.0 more.1 more.2 in
        record { later = is.later; these = is.these; fine = is.fine; fewer = omega (arith, is.fewer) }

-- the bytes after an element that is read are those printed after it, or, if it lost its separator, those after the elements
-- that it took in
record IsNext (nation : Option National) (predefined : Option ℕ) (b : Bool) (ps : List Printed) (behind : List ℕ) : Type 0 where
  pub later : List Printed
  pub these : skip_separator behind ≡ printed_text later
  pub fine : AllByRecursion (IsFine nation) later
  pub fewer : ((later ≡ ps) × (IsLost predefined b → ⊥)) ⊎ (length later ≤ length ps - 1)

next : (nation : Option National) (predefined : Option ℕ) (b : Bool) (ps : List Printed) (u v behind : List ℕ) → AllByRecursion (IsFine nation) ps → HasLength predefined v → list_all is_value_byte u ≡ true
    → list_all is_value_byte v ≡ true → EndsValue predefined u behind → u ++ behind ≡ v ++ (separator_where b ++ printed_text ps) → IsNext nation predefined b ps behind
next nation (Some n) b ps u v behind fine sized pu pv ends e =
    let tail = (same_halves u v behind (separator_where b ++ printed_text ps) (ends ∙ sym sized) e).1 in
    record { later = ps; these = ap skip_separator tail ∙ skip_mark b ps; fine = fine; fewer = inl (refl, λ lost. lost) }
next nation None true ps u v behind fine sized pu pv ends e =
    let tail = (same_runs u v behind (29 ∷ printed_text ps) pu pv ends refl e).1 in
    record { later = ps; these = ap skip_separator tail; fine = fine; fewer = inl (refl, λ lost. let h : true ≡ false = lost in absurd cc) }
next nation None false ps u v behind fine sized pu pv ends e =
    let more = covers v (printed_text ps) u behind pv pu ends (sym e) in
    let is = swallowed nation ps more.0 behind fine more.1 ends more.2 in
    record { later = is.later; these = is.these; fine = is.fine; fewer = inr is.fewer }

lacks_some : (ps : List Printed) → LackSeparators ps → 0 < length ps
lacks_some [] lack = absurd lack
lacks_some (p ∷ ps) lack = omega arith

lack_later : (p : Printed) (ps : List Printed) → LackSeparators (p ∷ ps) → (0 < length ps) × (IsLost (predefined_length p.element.identifier) p.separated ⊎ LackSeparators ps)
lack_later p [] lack = absurd lack
lack_later p (q ∷ ps) lack = (omega arith, lack)

-- no more elements are read than were printed, and fewer if a separator was lost
fewer_read : (n : ℕ) (nation : Option National) (ps : List Printed) (fs : List Element) → length ps ≤ n → AllByRecursion (IsFine nation) ps → BeginsWithElements nation (printed_text ps) fs []
    → (length fs ≤ length ps) × (LackSeparators ps → length fs < length ps)
fewer_read n nation ps [] within fine reads = (omega arith, λ lack. lacks_some ps lack)
fewer_read n nation [] (f ∷ fs) within fine reads = absurd (omega (arith, behind_shorter nation [] f reads.0 reads.1))
fewer_read zero nation (p ∷ ps) (f ∷ fs) within fine reads = absurd (omega (arith, within))
fewer_read (suc n) nation (p ∷ ps) (f ∷ fs) within fine reads =
    let same = same_identifier nation f.identifier p.element.identifier _ _ reads.1.known fine.0.known (sym reads.1.these) in
    let contents = same_content f.identifier p.element.identifier _ _ same (sym reads.1.these) in
    let ends = subst (λ k. EndsValue (predefined_length k) f.value reads.1.behind) same reads.1.ends in
    let is = next nation (predefined_length p.element.identifier) p.separated ps f.value p.element.value reads.1.behind fine.1 fine.0.whole.sized reads.1.one_piece fine.0.whole.one_piece ends contents in
    let goes = subst (λ (y : List ℕ). BeginsWithElements nation y fs []) (reads.1.skipped ∙ is.these) reads.2 in
    elim is.fewer [
      | inl all ↦
          let later = fewer_read n nation is.later fs (omega (arith, ap length all.0, within)) is.fine goes in (
            omega (arith, ap length all.0, later.0),
            λ lack. elim ((lack_later p ps lack).1) [
              | inl lost ↦ absurd (all.1 lost)
              | inr lack_too ↦ omega (arith, ap length all.0, later.1 (subst LackSeparators (sym all.0) lack_too))
            ],
          )
      | inr less ↦
          let later = fewer_read n nation is.later fs (omega (arith, less, within)) is.fine goes in
          (omega (arith, less, later.0), λ lack. omega (arith, less, later.0, (lack_later p ps lack).0))
    ]

known_read : (nation : Option National) (bytes : List ℕ) (es : List Element) (rest : List ℕ) → BeginsWithElements nation bytes es rest → AllByRecursion (λ (e : Element). IsKnown nation e.identifier) es
known_read nation bytes [] rest reads = tt
known_read nation bytes (e ∷ es) rest reads = (reads.1.known, known_read nation reads.0 es rest reads.2)

length_elements : (ps : List Printed) → length (elements_of ps) ≡ length ps
length_elements [] = refl
length_elements (p ∷ ps) = omega (arith, length_elements ps)

-- so it is read as no pack
pub lost_seen : LostSeparatorsAreSeen
lost_seen nation symbology b [] pack other is code lack reads = lack
lost_seen nation symbology b (p ∷ ps) pack other is code lack reads =
    let read = scan_read nation (scan_of symbology b (p ∷ ps)) other reads in
    let both : Ok read.0 ≡ Ok (separator_where b ++ printed_text (p ∷ ps)) = sym read.1 ∙ opens symbology b p ps is in
    let same : read.0 ≡ separator_where b ++ printed_text (p ∷ ps) = cc in
    let found = read.2 in
    let goes = subst (λ (y : List ℕ). BeginsWithElements nation y found.elements []) (ap skip_separator same ∙ skip_mark b (p ∷ ps)) found.these in
    let fewer = (fewer_read (length (p ∷ ps)) nation (p ∷ ps) found.elements (omega arith) (pack_fine nation (p ∷ ps) pack code) goes).1 lack in
    let printed = pack_count nation (elements_of (p ∷ ps)) pack (known_elements nation (p ∷ ps) code.known) code.once code.values in
    let counted = pack_count nation found.elements other (known_read nation (skip_separator read.0) found.elements [] found.these) found.once found.values in
    omega (arith, fewer, printed, counted, length_elements (p ∷ ps))
