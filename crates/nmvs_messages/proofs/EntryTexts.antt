-- The text of entries, piece by piece.
use Rattle.std.proofs.Common.{◌≡◌, ◌≢◌, ◌⊎◌, ℕ, ◌+◌, ◌-◌, ◌<◌, ◌≤◌, ◌==◌, nat_eq, true, false, inl, inr, List, [], ◌∷◌, ◌++◌, length, take, drop, refl, sym, ap, ◌∙◌, arith}
use Rattle.std.proofs.Math.Dec.{eqb}
use Rattle.std.proofs.lemmas.Bool.{eq-eqb, ne_eqb}
use Rattle.std.proofs.lemmas.Bool.Decides.{eqb_tells}
use Rattle.std.proofs.lemmas.List.{drop-drop, length-append, length-drop, take_all, take-append-drop}
use Rattle.std.proofs.lemmas.Grind.{flat_map-append}
use Rattle.nmvs_line.specs.Line.{entry_line}
use Rattle.nmvs_line.specs.Export.{ended_line, export_text}
use Rattle.nmvs_rules.specs.declared.entry.Entry.{Entry}

-- the first entries, and then the others
pub export_cut : (n : ℕ) (l : List Entry) → export_text (take n l) ++ export_text (drop n l) ≡ export_text l
export_cut n l = sym (flat_map-append ended_line (take n l) (drop n l)) ∙ ap export_text (take-append-drop n l)

-- an entry has a line
pub export_some : (l : List Entry) → 0 < length l → 0 < length (export_text l)
export_some [] some = absurd (omega (arith, some))
export_some (e ∷ l) some =
    let a = length-append (ended_line e) (export_text l) in
    let b = length-append (entry_line e) (10 ∷ []) in
    omega (arith, a, b)

pub export_empty : (l : List Entry) → (length (export_text l) == 0) ≡ (length l == 0)
export_empty [] = refl
export_empty (e ∷ l) =
    let some : 0 < length (e ∷ l) = omega arith in
    let longer = export_some (e ∷ l) some in
    ne_eqb (length (export_text (e ∷ l))) 0 (omega (arith, longer)) ∙ sym (ne_eqb (length (e ∷ l)) 0 (omega (arith, some)))

-- two numbers are equal if none is left between them
pub none_between : (f n : ℕ) → f ≤ n → nat_eq f n ≡ (n - f == 0)
none_between f n within = by (eqb_tells f n)
  where
    by : ((eqb f n ≡ true) × (f ≡ n)) ⊎ ((eqb f n ≡ false) × (f ≢ n)) → nat_eq f n ≡ (n - f == 0)
    by (inl (same, e)) = same ∙ sym (eq-eqb (n - f) 0 (omega (arith, e)))
    by (inr (other, e)) = other ∙ sym (ne_eqb (n - f) 0 (omega (arith, within, e)))

-- a slice from a place on
slice_from : (f : ℕ) (l : List Entry) → take (length l - f) (drop f l) ≡ drop f l
slice_from f l = take_all (length l - f) (drop f l) (omega (arith, length-drop f l))

-- some of those that are left, and then the others
pub gathered_cut : (f n : ℕ) (l l' : List Entry) → l' ≡ l → export_text (take n (take (length l' - f) (drop f l'))) ++ export_text (drop (f + n) l) ≡ export_text (drop f l)
gathered_cut f n l l' is =
    let same : take n (take (length l' - f) (drop f l')) ≡ take n (drop f l) = ap (λ (x : List Entry). take n (take (length x - f) (drop f x))) is ∙ ap (take n) (slice_from f l) in
    ap (λ (x : List Entry). export_text x ++ export_text (drop (f + n) l)) same
    ∙ ap (λ (x : List Entry). export_text (take n (drop f l)) ++ export_text x) (sym (drop-drop n f l)) ∙ export_cut n (drop f l)
