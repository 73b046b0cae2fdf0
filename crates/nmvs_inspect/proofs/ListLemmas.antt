-- Lists of entries, entry by entry.
use Rattle.std.proofs.Common.{◌≡◌, ◌∙◌, ap, sym, ℕ, ◌+◌, ◌<◌, Bool, true, false, ◌||◌, cond, Some, List, [], ◌∷◌, ◌++◌, append_assoc, length, take, map, get_or}
use Rattle.std.specs.List.{flat_map, list_any}
use Rattle.std.specs.Prelude.{filter, slice_get}
use Rattle.std.proofs.lemmas.List.{append-nil, map-append, take_more}
use Rattle.std.proofs.lemmas.List.Concat.{flat_map-append}
use Rattle.std.proofs.lemmas.List.Elements.{filter-append, filter_more}
use Rattle.std.proofs.lemmas.List.Folds.{list_any-append}
use Rattle.std.proofs.lemmas.Option.{get_or_from_slice_get, slice_get_within}
use Rattle.nmvs_rules.specs.declared.entry.Entry.{Entry}
use Rattle.nmvs_inspect.specs.declared.form.Form.{Form}
use Rattle.nmvs_inspect.specs.Rows.{Dated, header, entry_text, list_text}

-- the entries up to a place and the one that stands there
pub take-next : (t : List Entry) (i : ℕ) (e : Entry) → slice_get t i ≡ Some e → take (i + 1) t ≡ take i t ++ e ∷ []
take-next t i e stands =
    take_more t i e (slice_get_within t i e stands) ∙ ap (λ (x : Entry). take i t ++ x ∷ []) (get_or_from_slice_get t i e e stands)

-- one more entry that a test takes, or that it does not
pub filter-next : (p : Entry → Bool) (t : List Entry) (i : ℕ) (e : Entry) → slice_get t i ≡ Some e → filter p (take (i + 1) t) ≡ filter p (take i t) ++ cond (p e) (e ∷ []) []
filter-next p t i e stands = ap (filter p) (take-next t i e stands) ∙ filter-append p (take i t) (e ∷ [])

-- no entry so far that a test takes, nor the next one
pub none-next : (p : Entry → Bool) (t : List Entry) (i : ℕ) (e : Entry) → slice_get t i ≡ Some e → p e ≡ false → list_any p (take i t) ≡ false → list_any p (take (i + 1) t) ≡ false
none-next p t i e stands fails none =
    ap (list_any p) (take-next t i e stands) ∙ list_any-append p (take i t) (e ∷ []) ∙ (λ j. none j || (fails j || false))

abbrev pub entries_of : List Dated → List Entry
entries_of ds = map (λ d. d.entry) ds

-- one more entry that is taken, or that is not: the list has the entries that are taken so far
pub taken-next : {X : Type 0} (entry : X → Entry) (p : Entry → Bool) (t : List Entry) (i : ℕ) (e : Entry) (ds : List X) (d : X) → i < length t → p e ≡ true → e ≡ get_or t i e → entry d ≡ e
    → map entry ds ≡ filter p (take i t) → map entry (ds ++ d ∷ []) ≡ filter p (take (i + 1) t)
taken-next {X} entry p t i e ds d l passes at is inv =
    map-append entry ds (d ∷ []) ∙ ap (λ (x : List Entry). x ++ entry d ∷ []) inv ∙ ap (λ (x : Entry). filter p (take i t) ++ x ∷ []) (is ∙ at)
    ∙ ap (λ (b : Bool). filter p (take i t) ++ cond b (get_or t i e ∷ []) []) (sym passes ∙ ap p at) ∙ sym (filter_more p t i e l)

pub untaken-next : {X : Type 0} (entry : X → Entry) (p : Entry → Bool) (t : List Entry) (i : ℕ) (e : Entry) (ds : List X) → i < length t → p e ≡ false → e ≡ get_or t i e
    → map entry ds ≡ filter p (take i t) → map entry ds ≡ filter p (take (i + 1) t)
untaken-next entry p t i e ds l fails at inv =
    inv ∙ sym (append-nil (filter p (take i t))) ∙ ap (λ (b : Bool). filter p (take i t) ++ cond b (get_or t i e ∷ []) []) (sym fails ∙ ap p at) ∙ sym (filter_more p t i e l)

-- one more element: the list has the entry of each element so far
pub each-next : {X : Type 0} (entry : X → Entry) (es : List Entry) (i : ℕ) (e : Entry) (xs : List X) (x : X) → i < length es → e ≡ get_or es i e → entry x ≡ e
    → map entry xs ≡ take i es → map entry (xs ++ x ∷ []) ≡ take (i + 1) es
each-next entry es i e xs x l is same inv =
    map-append entry xs (x ∷ []) ∙ ap (λ (z : List Entry). z ++ entry x ∷ []) inv ∙ ap (λ (z : Entry). take i es ++ z ∷ []) (same ∙ is)
    ∙ sym (take_more es i e l)

-- a list with one more entry
pub list_text-more : (f : Form) (ds : List Dated) (d : Dated) → list_text f (ds ++ d ∷ []) ≡ list_text f ds ++ entry_text f d
list_text-more f ds d =
    ap (λ (x : List ℕ). header f ++ x) (flat_map-append (entry_text f) ds (d ∷ []) ∙ ap (λ (x : List ℕ). flat_map (entry_text f) ds ++ x) (append-nil (entry_text f d)))
    ∙ sym (append_assoc (header f) (flat_map (entry_text f) ds) (entry_text f d))

-- a text of one more element
pub flat_map-next : {X : Type 0} (f : X → List ℕ) (xs : List X) (i : ℕ) (d : X) → i < length xs → flat_map f (take (i + 1) xs) ≡ flat_map f (take i xs) ++ f (get_or xs i d)
flat_map-next {X} f xs i d l =
    ap (flat_map f) (take_more xs i d l) ∙ flat_map-append f (take i xs) (get_or xs i d ∷ []) ∙ ap (λ (x : List ℕ). flat_map f (take i xs) ++ x) (append-nil (f (get_or xs i d)))

-- a block with the text of one more element
pub block-next : {X : Type 0} (f : X → List ℕ) (old block new : List ℕ) (xs : List X) (i : ℕ) (d : X) → i < length xs → block ≡ old ++ flat_map f (take i xs)
    → new ≡ block ++ f (get_or xs i d) → new ≡ old ++ flat_map f (take (i + 1) xs)
block-next f old block new xs i d l inv more =
    more ∙ ap (λ (x : List ℕ). x ++ f (get_or xs i d)) inv ∙ append_assoc old (flat_map f (take i xs)) (f (get_or xs i d))
    ∙ ap (λ (x : List ℕ). old ++ x) (sym (flat_map-next f xs i d l))

-- a block with one more text
pub text-next : (old front text block new : List ℕ) → block ≡ old ++ front → new ≡ block ++ text → new ≡ old ++ (front ++ text)
text-next old front text block new inv more = more ∙ ap (λ (x : List ℕ). x ++ text) inv ∙ append_assoc old front text
