-- In a merging of trails each question is new where it was new in its own.
use Rattle.std.proofs.Common.{◌≡◌, ◌∙◌, ◌==◌, ℕ, Bool, true, false, cond, List, [], ◌∷◌, ◌++◌, length, refl, sym, ap, subst, arith, append-nil}
use Rattle.std.specs.Prelude.{All}
use Rattle.std.proofs.lemmas.Bool.{eqb-true}
use Rattle.std.proofs.lemmas.Bool.Decides.{nat_tests}
use Rattle.std.proofs.lemmas.List.Elements.{filter-append, All-head, All-tail}
use Rattle.nmvs_rules.specs.declared.entry.Entry.{Entry}
use Rattle.nmvs_rules.specs.Laws.{owned, placed_at, IsMerging}
use Rattle.nmvs_rules.specs.Questions.{code_of}
use Rattle.nmvs_rules.specs.Repeats.{AreNewAfter, AreNew}
use Rattle.nmvs_shard.proofs.Newness.{new-part}
use Rattle.nmvs_desk.specs.Placing.{place_of, shard_of, IsPlaced}

same : (n : ℕ) → (n == n) ≡ true
same n = grind (arith, nat_tests)

module _ (count : ℕ) where
  abbrev at : ℕ → List Entry → List Entry
  at = placed_at (place_of count)

  abbrev shard : Entry → ℕ
  shard e = shard_of count (code_of e.put.question)

  first : (i : ℕ) (e : Entry) (t : List Entry) (b : Bool) → (shard e == i) ≡ b → at i (e ∷ t) ≡ cond b (e ∷ at i t) (at i t)
  first i e t b is = ap (λ c. cond c (e ∷ at i t) (at i t)) is

  push : (i : ℕ) (u : List Entry) (e : Entry) (b : Bool) → (shard e == i) ≡ b → at i (u ++ e ∷ []) ≡ at i u ++ cond b (e ∷ []) []
  push i u e b is = filter-append (λ x. shard x == i) u (e ∷ []) ∙ ap (λ c. at i u ++ cond c (e ∷ []) []) is

  -- each question is new on the whole where it is new on the part of its shard
  new-whole : (u t : List Entry) → ((i : ℕ) → AreNewAfter (at i u) (at i t)) → AreNewAfter u t
  new-whole u [] new = tt
  new-whole u (e ∷ t) new =
      let i = shard e in
      let here : AreNewAfter (at i u) (e ∷ at i t) = subst (AreNewAfter (at i u)) (first i e t true (same i)) (new i) in
      ((new-part count u e.put).1 here.0, new-whole (u ++ e ∷ []) t (λ j. by j (i == j) refl here.1))
    where
      by : (j : ℕ) (b : Bool) → (shard e == j) ≡ b → AreNewAfter (at (shard e) u ++ e ∷ []) (at (shard e) t) → AreNewAfter (at j (u ++ e ∷ [])) (at j t)
      by j true is rest =
          let there : AreNewAfter (at j u ++ e ∷ []) (at j t) = subst (λ k. AreNewAfter (at k u ++ e ∷ []) (at k t)) (eqb-true (shard e) j is) rest in
          subst (λ x. AreNewAfter x (at j t)) (sym (push j u e true is)) there
      by j false is rest =
          let there : AreNewAfter (at j u) (at j t) = subst (AreNewAfter (at j u)) (first j e t false is) (new j) in
          subst (λ x. AreNewAfter x (at j t)) (sym (push j u e false is ∙ append-nil (at j u))) there

  -- an owner's entries are those of its shard
  owned-placed : (owners : List ℕ) (t : List Entry) → length owners ≡ length t → ((j : ℕ) → IsPlaced count j (owned owners t j)) → (i : ℕ) → at i t ≡ owned owners t i
  owned-placed [] [] many placed i = refl
  owned-placed (w ∷ owners) (x ∷ t) many placed i =
      by (w == i) refl (owned-placed owners t (omega (arith, many)) (λ j. rest j (w == j) (placed j)) i)
    where
      P : ℕ → Entry → Type 0
      P j e = shard e ≡ j

      rest : (j : ℕ) (b : Bool) → All (P j) (cond b (x ∷ owned owners t j) (owned owners t j)) → All (P j) (owned owners t j)
      rest j true all = All-tail (P j) x (owned owners t j) all
      rest j false all = all

      its : shard x ≡ w
      its = All-head (P w) x (owned owners t w) (subst (λ c. All (P w) (cond c (x ∷ owned owners t w) (owned owners t w))) (same w) (placed w))

      by : (b : Bool) → (w == i) ≡ b → at i t ≡ owned owners t i → at i (x ∷ t) ≡ owned (w ∷ owners) (x ∷ t) i
      by b is more =
          first i x t b (ap (λ n. n == i) its ∙ is) ∙ ap (λ l. cond b (x ∷ l) l) more ∙ sym (ap (λ c. cond c (x ∷ owned owners t i) (owned owners t i)) is)
  owned-placed [] (x ∷ t) many placed i = absurd (omega (arith, many))
  owned-placed (w ∷ owners) [] many placed i = absurd (omega (arith, many))

  pub new-merged : (lists : ℕ → List Entry) (t : List Entry) → IsMerging lists t → ((i : ℕ) → IsPlaced count i (lists i)) → ((i : ℕ) → AreNew (lists i)) → AreNew t
  new-merged lists t merging placed new =
      let parts = owned-placed merging.0 t merging.1 (λ j. subst (IsPlaced count j) (sym (merging.2 j)) (placed j)) in
      new-whole [] t (λ i. subst (AreNewAfter []) (sym (parts i ∙ merging.2 i)) (new i))
