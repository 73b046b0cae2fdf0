-- Once all tokens are back: each receipt stands, each place is that of one receipt, and the owners noted own the entries.
use Rattle.std.proofs.Common.{◌≡◌, ◌≢◌, ◌<◌, ◌≤◌, ◌+◌, ◌++◌, ◌∙◌, inl, inr, ℕ, zero, suc, List, [], ◌∷◌, length, map, replicate, refl, sym, ap, subst, arith, length-append}
use Rattle.std.specs.Prelude.{Option, None, Some, slice_get, All}
use Rattle.std.proofs.lemmas.Bool.{cases_lt}
use Rattle.std.proofs.lemmas.List.{length-map, length-replicate}
use Rattle.std.proofs.lemmas.List.Elements.{All-head, All-tail}
use Rattle.std.proofs.lemmas.Option.{slice_get_within, same_Some}
use mathlib.Core.List.{IsPrefix}
use Rattle.nmvs_history.specs.Views.{HistoryId, ClosingView, times, AreBelow}
use Rattle.nmvs_history.proofs.Sums.{times_both}
use Rattle.nmvs_rules.specs.declared.entry.Entry.{Entry}
use Rattle.nmvs_desk.specs.declared.ask.Receipt.{Receipt}
use Rattle.nmvs_desk.specs.declared.settled.Owner.{Owner}
use Rattle.nmvs_desk.specs.Closing.{trails_of, seen_in, unlocked, all_places, blank_owners, HaveShape, AreNoted, AreApart, HavePlaces, AreClosing, IsWhole}
use Rattle.nmvs_desk.specs.Settlement.{row, at, owner, lists_of, first_places, own_places, Rises, AreDivided, IsSettled, IsOwner, IsOwned}
use Rattle.nmvs_desk.specs.Views.{LockedView, ClerkView, IsNumbered}
use Rattle.nmvs_desk.proofs.Closings.{all_begin, all_below, all_seen}
use Rattle.nmvs_desk.proofs.Noting.{row_within}
use Rattle.nmvs_desk.proofs.Places.{apart, among_own, as_many, length-first_places, meeting_any, met_nowhere}

-- an element at a place of a list is in one of the lists
at_within : {X : Type 0} (lists : List (List X)) (i j : ℕ) (x : X) → at lists i j ≡ Some x → i < length lists
at_within lists i j x there = row_within lists i j (slice_get_within (row lists i) j x there)

row_past : {X : Type 0} (lists : List (List X)) (i : ℕ) → length lists ≤ i → row lists i ≡ []
row_past [] i past = refl
row_past (l ∷ ls) zero past = absurd (omega (arith, past))
row_past (l ∷ ls) (suc i) past = row_past ls i (omega (arith, past))

-- the receipts of the clerks that are settled
of_clerks : (trails : List (List Entry)) (clerks : List ClerkView) → All (IsSettled trails) clerks → (c n : ℕ) (r : Receipt)
    → at (map (λ (c : ClerkView). c.receipts) clerks) c n ≡ Some r → at trails r.shard r.place ≡ Some r.entry
of_clerks trails [] settled c n r there = absurd cc
of_clerks trails (x ∷ xs) settled zero n r there = (All-head (IsSettled trails) x xs settled).stand n r there
of_clerks trails (x ∷ xs) settled (suc c) n r there = of_clerks trails xs (All-tail (IsSettled trails) x xs settled) c n r there

rises_of : (trails : List (List Entry)) (clerks : List ClerkView) → All (IsSettled trails) clerks → (c : ℕ) → Rises (row (map (λ (c : ClerkView). c.receipts) clerks) c)
rises_of trails [] settled c = λ k m p q less at_k at_m same. absurd cc
rises_of trails (x ∷ xs) settled zero = (All-head (IsSettled trails) x xs settled).rising
rises_of trails (x ∷ xs) settled (suc c) = rises_of trails xs (All-tail (IsSettled trails) x xs settled) c

-- their places are among the own places of the clerks
module _ (trails : List (List Entry)) (clerks : List ClerkView) (settled : All (IsSettled trails) clerks) (opening : ℕ → List Entry) (below : (i : ℕ) → i < length trails → AreBelow (length (row trails i)) (first_places (length (opening i)) ++ own_places i clerks)) where
  stand : (clerk number : ℕ) (r : Receipt) → at (lists_of clerks) clerk number ≡ Some r → at trails r.shard r.place ≡ Some r.entry
  stand clerk number r there = of_clerks trails clerks settled clerk number r there

  past : (i j n : ℕ) → length trails ≤ i → times j (all_places i (lists_of clerks)) ≡ n → n ≤ 1
  past i j zero above is = omega arith
  past i j (suc n) above is =
      let m = meeting_any (lists_of clerks) i j (omega (arith, is)) in
      absurd (omega (arith, above, m.meets.shard, at_within trails _ _ _ (stand m.clerk m.meets.number m.meets.receipt m.meets.is)))

  within_once : (i j : ℕ) → i < length trails → times j (all_places i (lists_of clerks)) ≤ 1
  within_once i j within =
      let among = among_own i j clerks (λ k d less. (settled k d less).own i within) in
      let both = times_both j (first_places (length (opening i))) (own_places i clerks) in
      elim (cases_lt j (length (row trails i))) [
        | inl less ↦ omega (arith, among, both, (below i within).0 j less)
        | inr above ↦ omega (arith, among, both, (below i within).1 j above)
      ]

  pub whole : IsWhole trails (lists_of clerks)
  whole = record {
    stand = stand;
    rising = rises_of trails clerks settled;
    once = λ i j. elim (cases_lt i (length trails)) [
      | inl within ↦ within_once i j within
      | inr above ↦ past i j (times j (all_places i (lists_of clerks))) above refl
    ];
  }

-- the trails that opened shards have seen once they are out of their locks
pub seen_unlocked : (tables : ℕ → HistoryId) (opening : ℕ → List Entry) (locked : List LockedView) → seen_in (map (unlocked tables opening) locked) ≡ trails_of locked
seen_unlocked tables opening [] = refl
seen_unlocked tables opening (h ∷ hs) = ap (λ ts. h.trail ∷ ts) (seen_unlocked tables opening hs)

-- the facts of shards and receipts once all tokens are back
pub record AreBack (count : ℕ) (opening : ℕ → List Entry) (locked : List LockedView) (clerks : List ClerkView) (shards : List (List Entry)) (lists : List (List Receipt)) : Type 0 where
  pub trails : shards ≡ trails_of locked
  pub settled : All (IsSettled shards) clerks
  pub divided : AreDivided count opening shards clerks
  pub whole : IsWhole (trails_of locked) lists

pub are_back : (tables : ℕ → HistoryId) (count : ℕ) (opening : ℕ → List Entry) (locked : List LockedView) (clerks : List ClerkView) (closings after : List ClosingView)
    (shards : List (List Entry)) (lists : List (List Receipt)) → length locked ≡ count → IsNumbered (map (λ (h : LockedView). h.index) locked)
    → closings ≡ map (unlocked tables opening) locked → All (λ (h : LockedView). IsPrefix (opening h.index) h.trail) locked
    → AreClosing tables opening (seen_in closings) 9 clerks after → All (IsSettled (seen_in closings)) clerks → lists ≡ lists_of clerks
    → shards ≡ seen_in after → All (λ (u : ClosingView). AreBelow (length u.seen) u.places) after → AreBack count opening locked clerks shards lists
are_back tables count opening locked clerks closings after shards lists many numbered from begin closing settled are trails below = record {
  trails = is;
  settled = subst (λ ts. All (IsSettled ts) clerks) (sym is) settled_there;
  divided = subst (λ ts. AreDivided count opening ts clerks) (sym is) (record {
    begins = λ i within. all_begin locked numbered opening begin i (omega (arith, within, many));
    places = λ i within. below_there i (inside i within);
    many = λ i within.
        sym (as_many (length (row (trails_of locked) i)) (first_places (length (opening i)) ++ own_places i clerks) (below_there i (inside i within)))
        ∙ length-append (first_places (length (opening i))) (own_places i clerks) ∙ ap (λ n. n + length (own_places i clerks)) (length-first_places (length (opening i)));
  });
  whole = subst (λ ls. IsWhole (trails_of locked) ls) (sym are) (whole (trails_of locked) clerks settled_there opening below_there);
}
  where
    seen : seen_in closings ≡ trails_of locked
    seen = ap seen_in from ∙ seen_unlocked tables opening locked

    is : shards ≡ trails_of locked
    is = trails ∙ all_seen tables opening (seen_in closings) 9 clerks after closing ∙ seen

    settled_there : All (IsSettled (trails_of locked)) clerks
    settled_there = subst (λ ts. All (IsSettled ts) clerks) seen settled

    below_there : (i : ℕ) → i < length (trails_of locked) → AreBelow (length (row (trails_of locked) i)) (first_places (length (opening i)) ++ own_places i clerks)
    below_there = all_below tables opening (trails_of locked) clerks after (subst (λ ts. AreClosing tables opening ts 9 clerks after) seen closing) below

    inside : (i : ℕ) → i < count → i < length (trails_of locked)
    inside i within = omega (arith, within, many, length-map locked (λ (h : LockedView). h.trail))

module _ (trails : List (List Entry)) (lists : List (List Receipt)) (is : IsWhole trails lists) where
  in_trail : (c n : ℕ) (r : Receipt) → at lists c n ≡ Some r → r.place < length (row trails r.shard)
  in_trail c n r there = slice_get_within (row trails r.shard) r.place r.entry (is.stand c n r there)

  pub are_apart : AreApart lists
  are_apart c d k m p q less at_c at_d shard place =
      apart lists c d k m p q less at_c at_d shard place (is.once p.shard p.place)

  module _ (blank : List (List (Option Owner))) (shape : HaveShape blank trails) where
    pub have_places : HavePlaces lists blank
    have_places c n r there = omega (arith, in_trail c n r there, shape.rows r.shard)

    module _ (none : (i j : ℕ) (o : Owner) → at blank i j ≢ Some (Some o)) (owners : List (List (Option Owner))) (noted : AreNoted lists (length lists) blank owners) where
      owning : (clerk number : ℕ) (r : Receipt) → at lists clerk number ≡ Some r → at owners r.shard r.place ≡ Some (Some (owner clerk number))
      owning clerk number r there = noted.noted clerk number r (at_within lists clerk number r there) there

      owner_of : (i j : ℕ) (o : Owner) → at owners i j ≡ Some (Some o) → IsOwner trails lists i j o
      owner_of i j o there = by (times j (all_places i lists)) refl
        where
          by : (n : ℕ) → times j (all_places i lists) ≡ n → IsOwner trails lists i j o
          by zero unmet =
              let apart : (clerk number : ℕ) (r : Receipt) → clerk < length lists → at lists clerk number ≡ Some r → r.shard ≡ i → r.place ≡ j → ⊥
              = λ clerk number r within its shard place. met_nowhere lists i j clerk number r its shard place unmet in
              absurd (none i j o (sym (noted.kept i j apart) ∙ there))
          by (suc n) met =
              let m = meeting_any lists i j (omega (arith, met)) in
              let n = m.meets in
              let its : owner m.clerk n.number ≡ o
              = same_Some (owner m.clerk n.number) o (same_Some (Some (owner m.clerk n.number)) (Some o) (sym (owning m.clerk n.number n.receipt n.is) ∙ (λ k. at owners (n.shard k) (n.place k)) ∙ there)) in
              record {
                receipt = n.receipt;
                is = subst (λ (x : Owner). at lists x.clerk x.receipt ≡ Some n.receipt) its n.is;
                shard = n.shard;
                place = n.place;
                entry = is.stand m.clerk n.number n.receipt n.is;
              }

      pub owned : IsOwned trails lists owners
      owned = record {
        shards = noted.shape.lists ∙ shape.lists;
        one_each = λ i. noted.shape.rows i ∙ shape.rows i;
        owned = owner_of;
        owning = owning;
      }

pub blank_shape : (trails : List (List Entry)) → HaveShape (blank_owners trails) trails
blank_shape trails = record { lists = length-map trails blanks; rows = rows trails }
  where
    blanks : List Entry → List (Option Owner)
    blanks t = replicate (length t) None

    rows : (ts : List (List Entry)) (i : ℕ) → length (row (blank_owners ts) i) ≡ length (row ts i)
    rows [] i = refl
    rows (t ∷ ts) zero = length-replicate (length t) None
    rows (t ∷ ts) (suc i) = rows ts i

-- no owner is noted yet
pub blank_none : (trails : List (List Entry)) (i j : ℕ) (o : Owner) → at (blank_owners trails) i j ≢ Some (Some o)
blank_none [] i j o is = absurd cc
blank_none (t ∷ ts) zero j o is = none (length t) j is
  where
    none : (n j : ℕ) → slice_get (replicate n None) j ≡ Some (Some o) → ⊥
    none zero j is = absurd cc
    none (suc n) zero is = absurd cc
    none (suc n) (suc j) is = none n j is
blank_none (t ∷ ts) (suc i) j o is = blank_none ts i j o is
