-- The trails of shards that are taken out of their locks.
use Rattle.std.proofs.Common.{◌≡◌, ◌⊎◌, inl, inr, ◌<◌, ◌≤◌, ◌∙◌, ℕ, zero, suc, Bool, true, false, ◌||◌, List, [], ◌∷◌, refl, sym, ap, subst, arith, map, length, get_or}
use Rattle.std.specs.Prelude.{All, IsTrue, slice_index}
use Rattle.std.specs.List.{list_any}
use Rattle.std.proofs.lemmas.List.{length-map, get_or-map}
use Rattle.std.proofs.lemmas.List.Elements.{All-nil, All-head, All-tail}
use Rattle.nmvs_identifier.specs.ProductCode.{ProductCode}
use Rattle.nmvs_rules.specs.declared.entry.Entry.{Entry}
use Rattle.nmvs_rules.specs.Entries.{is_entry, AreEntries}
use Rattle.nmvs_rules.specs.Questions.{code_of}
use Rattle.nmvs_rules.specs.Rules.{IsLawful}
use Rattle.nmvs_rules.specs.Trail.{has_code}
use Rattle.nmvs_rules.proofs.MergeLemmas.{IsLawful-merged}
use Rattle.nmvs_rules.proofs.TextLemmas.{same_text-bytes}
use Rattle.nmvs_desk.specs.Closing.{trails_of}
use Rattle.nmvs_desk.specs.Views.{LockedView, IsNumbered}
use Rattle.nmvs_desk.specs.Placing.{place_of, shard_of, IsPlaced, IsPartOf}
use Rattle.nmvs_desk.specs.Settlement.{row}
use Rattle.nmvs_desk.specs.Trails.{IsKept, AreTrails}
use Rattle.nmvs_desk.proofs.Merging.{new-merged}

abbrev pub numbers_of : List LockedView → List ℕ
numbers_of locked = map (λ (h : LockedView). h.index) locked

-- past the last shard a trail is empty, else it is that of the shard there
row_of : (count : ℕ) (locked : List LockedView) → All (IsKept count) locked → (i : ℕ)
    → (row (trails_of locked) i ≡ [])
    ⊎ ((h : LockedView) × IsKept count h × (i < length locked) × (slice_index (numbers_of locked) i ≡ h.index) × (row (trails_of locked) i ≡ h.trail))
row_of count [] kept i = inl refl
row_of count (h ∷ locked) kept zero = inr (h, All-head (IsKept count) h locked kept, omega arith, refl, refl)
row_of count (h ∷ locked) kept (suc i) =
    elim (row_of count locked (All-tail (IsKept count) h locked kept) i) [
      | inl e ↦ inl e
      | inr e ↦ inr (e.0, e.1, omega (arith, e.2), e.3, e.4)
    ]

kept_row : (count : ℕ) (locked : List LockedView) → All (IsKept count) locked → IsNumbered (numbers_of locked) → (i : ℕ)
    → IsLawful (row (trails_of locked) i) × AreEntries (row (trails_of locked) i) × IsPartOf count i (row (trails_of locked) i)
kept_row count locked kept numbered i =
    let P : List Entry → Type 0 = λ t. IsLawful t × AreEntries t × IsPartOf count i t in
    elim (row_of count locked kept i) [
      | inl e ↦ subst P (sym e) (tt, All-nil (λ (x : Entry). IsTrue (is_entry x)), record { placed = All-nil (λ (x : Entry). shard_of count (code_of x.put.question) ≡ i); new = tt })
      | inr e ↦
          let index : e.0.index ≡ i = sym e.3 ∙ numbered i (omega (arith, e.2, length-map locked (λ (h : LockedView). h.index))) in
          let Q : ℕ → Type 0 = λ n. IsPartOf count n e.0.trail in
          subst P (sym e.4) (e.1.lawful, e.1.in_range, subst Q index e.1.placed)
    ]

-- a product code that stands in a shard's trail belongs to the shard
code_placed : (count i : ℕ) (c : ProductCode) (t : List Entry) → IsPlaced count i t → list_any (has_code c) t ≡ true → shard_of count c ≡ i
code_placed count i c [] placed some = absurd (cc)
code_placed count i c (e ∷ t) placed some = by (has_code c e) refl some (λ any. code_placed count i c t (All-tail P e t placed) any)
  where
    P : Entry → Type 0
    P x = shard_of count (code_of x.put.question) ≡ i

    by : (b : Bool) → has_code c e ≡ b → (b || list_any (has_code c) t) ≡ true → (list_any (has_code c) t ≡ true → shard_of count c ≡ i) → shard_of count c ≡ i
    by true is any rest = ap (place_of count) (same_text-bytes c (code_of e.put.question) is) ∙ All-head P e t placed
    by false is any rest = rest any

pub are_trails : (count : ℕ) (locked : List LockedView) → length locked ≡ count → All (IsKept count) locked → IsNumbered (numbers_of locked) → AreTrails count (trails_of locked)
are_trails count locked many kept numbered =
    let rows = kept_row count locked kept numbered in
    let ts = trails_of locked in
    record {
      shards = length-map locked (λ (h : LockedView). h.trail) ∙ many;
      lawful = λ i. (rows i).0;
      in_range = λ i. (rows i).1;
      placed = λ i. (rows i).2;
      whole = λ t merging. (
        IsLawful-merged (row ts) t merging
            (λ c i j a b. sym (code_placed count i c (row ts i) (rows i).2.placed a) ∙ code_placed count j c (row ts j) (rows j).2.placed b)
            (λ i. (rows i).0),
        new-merged count (row ts) t merging (λ i. (rows i).2.placed) (λ i. (rows i).2.new),
      );
    }

pub few_numbered : (shards : List LockedView) (numbers : List ℕ) → numbers_of shards ≡ numbers → IsNumbered numbers → length numbers ≤ 8 → All (λ (h : LockedView). h.index < 8) shards
few_numbered shards numbers are numbered few k d within =
    let many : length shards ≡ length numbers = sym (length-map shards (λ (h : LockedView). h.index)) ∙ ap length are in
    let index : get_or (numbers_of shards) k 0 ≡ (get_or shards k d).index = get_or-map (λ (h : LockedView). h.index) shards k d 0 within in
    omega (arith, index, ap (λ ns. get_or ns k 0) are, numbered k (omega (arith, many, within)), few, many, within)
