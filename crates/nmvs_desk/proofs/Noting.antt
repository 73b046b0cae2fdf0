-- The owners noted at the places of receipts.
use Rattle.std.proofs.Common.{◌≡◌, inl, inr, ◌<◌, ◌+◌, ℕ, zero, suc, List, [], ◌∷◌, length, set, get_or, refl, sym, ap, subst, ◌∙◌, arith, length-set}
use Rattle.std.specs.Prelude.{Option, Some, slice_get}
use Rattle.std.proofs.lemmas.List.{get_or-set_same}
use Rattle.std.proofs.lemmas.Bool.Decides.{eqb_tells}
use Rattle.std.proofs.lemmas.Option.{same_Some, slice_get_within, slice_get_read, get_or_from_slice_get}
use Rattle.nmvs_desk.specs.declared.ask.Receipt.{Receipt}
use Rattle.nmvs_desk.specs.declared.settled.Owner.{Owner}
use Rattle.nmvs_desk.specs.Settlement.{row, at, owner, Rises}
use Rattle.nmvs_desk.specs.Closing.{put, HaveShape, Notes, AreNoted, AreApart, HavePlaces}
use Rattle.nmvs_desk.proofs.Lists.{set_same, set_other}

-- a list that has a place is one of the lists
pub row_within : {X : Type 0} (lists : List (List X)) (i j : ℕ) → j < length (row lists i) → i < length lists
row_within [] i j within = absurd (omega (arith, within))
row_within (l ∷ ls) zero j within = omega arith
row_within (l ∷ ls) (suc i) j within = omega (arith, row_within ls i j within)

-- the list that was read
pub read_row : {X : Type 0} (lists : List (List X)) (i : ℕ) (line : List X) → i < length lists → line ≡ get_or lists i line → row lists i ≡ line
read_row lists i line within is = get_or_from_slice_get lists i line [] (slice_get_read lists (length lists) i line refl within is)

put_shape : {X : Type 0} (lists : List (List X)) (i j : ℕ) (x : X) → HaveShape (put lists i j x) lists
put_shape {X} lists i j x = record { lists = length-set lists i (set (row lists i) j x); rows = rows lists i }
  where
    rows : (ls : List (List X)) (i s : ℕ) → length (row (put ls i j x) s) ≡ length (row ls s)
    rows [] i s = refl
    rows (l ∷ ls) zero zero = length-set l j x
    rows (l ∷ ls) zero (suc s) = refl
    rows (l ∷ ls) (suc i) zero = refl
    rows (l ∷ ls) (suc i) (suc s) = rows ls i s

put_same : {X : Type 0} (lists : List (List X)) (i j : ℕ) (x : X) → j < length (row lists i) → at (put lists i j x) i j ≡ Some x
put_same lists i j x within =
    ap (λ l. slice_get l j) (get_or-set_same lists i (set (row lists i) j x) [] (row_within lists i j within)) ∙ set_same (row lists i) j x within

put_else : {X : Type 0} (lists : List (List X)) (i j s p : ℕ) (x : X) → ((s ≡ i) → (p ≡ j) → ⊥) → at (put lists i j x) s p ≡ at lists s p
put_else {X} [] i j s p x apart = refl
put_else {X} (l ∷ ls) zero j zero p x apart = set_other l j p x (λ e. apart refl e)
put_else {X} (l ∷ ls) zero j (suc s) p x apart = refl
put_else {X} (l ∷ ls) (suc i) j zero p x apart = refl
put_else {X} (l ∷ ls) (suc i) j (suc s) p x apart = put_else ls i j s p x (λ e f. apart (ap suc e) f)

pub same_shape : {X : Type 0} (xs : List (List X)) → HaveShape xs xs
same_shape xs = record { lists = refl; rows = λ i. refl }

shape_over : {X Y Z : Type 0} (xs : List (List X)) (ys : List (List Y)) (zs : List (List Z)) → HaveShape xs ys → HaveShape ys zs → HaveShape xs zs
shape_over xs ys zs a b = record { lists = a.lists ∙ b.lists; rows = λ i. a.rows i ∙ b.rows i }

pub notes_none : (clerk : ℕ) (receipts : List Receipt) (old : List (List (Option Owner))) → Notes clerk receipts 0 old old
notes_none clerk receipts old = record { shape = same_shape old; noted = λ k r below at. absurd (omega (arith, below)); kept = λ i j apart. refl }

-- one more receipt of a clerk whose receipts' places rise
pub notes_more : (clerk : ℕ) (receipts : List Receipt) (n : ℕ) (r : Receipt) (old mid : List (List (Option Owner))) → Notes clerk receipts n old mid → Rises receipts
    → slice_get receipts n ≡ Some r → r.place < length (row old r.shard) → Notes clerk receipts (n + 1) old (put mid r.shard r.place (Some (owner clerk n)))
notes_more clerk receipts n r old mid so_far rises is within =
    let o = Some (owner clerk n) in
    let inside : r.place < length (row mid r.shard) = omega (arith, within, so_far.shape.rows r.shard) in
    record {
      shape = shape_over (put mid r.shard r.place o) mid old (put_shape mid r.shard r.place o) so_far.shape;
      noted = λ k q below there.
          elim (eqb_tells k n) [
            | inl e ↦ (
                let it : r ≡ q = same_Some r q (sym is ∙ ap (slice_get receipts) (sym e.1) ∙ there) in
                subst (λ (p : Receipt × ℕ). at (put mid r.shard r.place o) p.0.shard p.0.place ≡ Some (Some (owner clerk p.1))) (λ i. (it i, sym e.1 i)) (put_same mid r.shard r.place o inside))
            | inr e ↦ (
                let before : k < n = omega (arith, below, e.1) in
                put_else mid r.shard r.place q.shard q.place o (λ s p. (let less = rises k n q r before there is s in omega (arith, less, p)))
                ∙ so_far.noted k q before there)
          ];
      kept = λ i j apart.
          put_else mid r.shard r.place i j o (λ s p. apart n r (omega arith) is (sym s) (sym p))
          ∙ so_far.kept i j (λ k q below there s p. apart k q (omega (arith, below)) there s p);
    }

pub noted_none : (lists : List (List Receipt)) (old : List (List (Option Owner))) → AreNoted lists 0 old old
noted_none lists old = record { shape = same_shape old; noted = λ c k r below at. absurd (omega (arith, below)); kept = λ i j apart. refl }

-- one more clerk, who has no place in common with the earlier ones
pub noted_more : (lists : List (List Receipt)) (n : ℕ) (receipts : List Receipt) (old mid new : List (List (Option Owner))) → AreNoted lists n old mid → AreApart lists
    → row lists n ≡ receipts → Notes n receipts (length receipts) mid new → AreNoted lists (n + 1) old new
noted_more lists n receipts old mid new so_far apart is notes = record {
  shape = shape_over new mid old notes.shape so_far.shape;
  noted = λ c k r below there.
      elim (eqb_tells c n) [
        | inl e ↦ (
            let here : slice_get receipts k ≡ Some r = ap (λ l. slice_get l k) (sym is) ∙ ap (λ z. at lists z k) (sym e.1) ∙ there in
            notes.noted k r (slice_get_within receipts k r here) here ∙ ap (λ z. Some (Some (owner z k))) (sym e.1))
        | inr e ↦ (
            let before : c < n = omega (arith, below, e.1) in
            notes.kept r.shard r.place (λ m q within its s p. apart c n k m r q before there (ap (λ l. slice_get l m) is ∙ its) (sym s) (sym p))
            ∙ so_far.noted c k r before there)
      ];
  kept = λ i j none.
      notes.kept i j (λ m q within its s p. none n m q (omega arith) (ap (λ l. slice_get l m) is ∙ its) s p)
      ∙ so_far.kept i j (λ c k q below there s p. none c k q (omega (arith, below)) there s p);
}

-- there is room for the places of each clerk
pub have_room : (lists : List (List Receipt)) (n : ℕ) (receipts : List Receipt) (old mid : List (List (Option Owner))) → AreNoted lists n old mid → HavePlaces lists old
    → row lists n ≡ receipts → (k : ℕ) (r : Receipt) → slice_get receipts k ≡ Some r → r.place < length (row mid r.shard)
have_room lists n receipts old mid so_far places is k r there =
    omega (arith, places n k r (ap (λ l. slice_get l k) is ∙ there), so_far.shape.rows r.shard)
