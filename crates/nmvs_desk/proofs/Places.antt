-- Places of receipts: how often each occurs, and what follows if the places of all clerks are those of a trail.
use Rattle.std.proofs.Common.{◌≡◌, ◌≢◌, ◌<◌, ◌≤◌, ◌+◌, ◌==◌, inl, inr, ℕ, zero, suc, cond, List, [], ◌∷◌, length, map, refl, sym, ap, subst, ◌∙◌, arith, eq-eqb, ne_eqb, length-append}
use Rattle.std.specs.Prelude.{All, Some, slice_get, filter}
use Rattle.std.proofs.lemmas.Bool.{cases_lt}
use Rattle.std.proofs.lemmas.Bool.Decides.{eqb_tells}
use Rattle.std.proofs.lemmas.List.Elements.{All-head, All-tail}
use Rattle.std.proofs.lemmas.List.Concat.{flat_map-cons}
use Rattle.std.proofs.lemmas.List.Sums.{sum_by-cons}
use Rattle.std.proofs.lemmas.Option.{same_Some}
use Rattle.nmvs_history.specs.Views.{times, AreBelow}
use Rattle.nmvs_history.proofs.Sums.{times_both}
use Rattle.nmvs_desk.specs.declared.ask.Receipt.{Receipt}
use Rattle.nmvs_desk.specs.Closing.{all_places}
use Rattle.nmvs_desk.specs.Settlement.{row, at, lists_of, places_in, first_places, own_places, AreOwn}
use Rattle.nmvs_desk.specs.Views.{ClerkView}

times_cons : (j k : ℕ) (ks : List ℕ) → times j (k ∷ ks) ≡ cond (k == j) 1 0 + times j ks
times_cons j k ks = sum_by-cons (λ k. cond (k == j) 1 0) k ks

times_one : (j k : ℕ) (ks : List ℕ) → k ≡ j → times j (k ∷ ks) ≡ 1 + times j ks
times_one j k ks is = times_cons j k ks ∙ ap (λ b. cond b 1 0 + times j ks) (eq-eqb k j is)

-- the places of a list that begins with a receipt
places_first : (i : ℕ) (r : Receipt) (rs : List Receipt) → r.shard ≡ i → places_in i (r ∷ rs) ≡ r.place ∷ places_in i rs
places_first i r rs is = ap (λ b. map (λ (r : Receipt). r.place) (cond b (r ∷ filter (λ (r : Receipt). r.shard == i) rs) (filter (λ (r : Receipt). r.shard == i) rs))) (eq-eqb r.shard i is)

places_skip : (i : ℕ) (r : Receipt) (rs : List Receipt) → r.shard ≢ i → places_in i (r ∷ rs) ≡ places_in i rs
places_skip i r rs apart = ap (λ b. map (λ (r : Receipt). r.place) (cond b (r ∷ filter (λ (r : Receipt). r.shard == i) rs) (filter (λ (r : Receipt). r.shard == i) rs))) (ne_eqb r.shard i apart)

-- a receipt's place is among those of its list
pub met : (rs : List Receipt) (n : ℕ) (r : Receipt) → slice_get rs n ≡ Some r → 1 ≤ times r.place (places_in r.shard rs)
met [] n r there = absurd cc
met (x ∷ rs) zero r there =
    subst (λ (q : Receipt). 1 ≤ times q.place (places_in q.shard (x ∷ rs))) (same_Some x r there)
    (omega (arith, ap (times x.place) (places_first x.shard x rs refl), times_one x.place x.place (places_in x.shard rs) refl))
met (x ∷ rs) (suc n) r there =
    elim (eqb_tells x.shard r.shard) [
      | inl e ↦ omega (arith, met rs n r there, ap (times r.place) (places_first r.shard x rs e.1), times_cons r.place x.place (places_in r.shard rs))
      | inr e ↦ omega (arith, met rs n r there, ap (times r.place) (places_skip r.shard x rs e.1))
    ]

-- a place among those of a list is that of a receipt
pub record Meets (rs : List Receipt) (i j : ℕ) : Type 0 where
  pub number : ℕ
  pub receipt : Receipt
  pub is : slice_get rs number ≡ Some receipt
  pub shard : receipt.shard ≡ i
  pub place : receipt.place ≡ j

pub meeting : (rs : List Receipt) (i j : ℕ) → 1 ≤ times j (places_in i rs) → Meets rs i j
meeting [] i j some = absurd (omega (arith, some))
meeting (x ∷ rs) i j some =
    elim (eqb_tells x.shard i) [
      | inl e ↦ (
          let here = e.1 in
          elim (eqb_tells x.place j) [
            | inl f ↦ record { number = 0; receipt = x; is = refl; shard = here; place = f.1 }
            | inr f ↦ (
                let other = times_cons j x.place (places_in i rs) ∙ ap (λ b. cond b 1 0 + times j (places_in i rs)) (ne_eqb x.place j f.1) in
                later (meeting rs i j (omega (arith, some, ap (times j) (places_first i x rs here), other))))
          ])
      | inr e ↦ later (meeting rs i j (omega (arith, some, ap (times j) (places_skip i x rs e.1))))
    ]
  where
    later : Meets rs i j → Meets (x ∷ rs) i j
    later m = record { number = suc m.number; receipt = m.receipt; is = m.is; shard = m.shard; place = m.place }

-- a list's places are among those of all lists
among_all : (i j : ℕ) (lists : List (List Receipt)) (c : ℕ) → times j (places_in i (row lists c)) ≤ times j (all_places i lists)
among_all i j [] c = omega arith
among_all i j (l ∷ ls) zero = omega (arith, ap (times j) (flat_map-cons (places_in i) l ls), times_both j (places_in i l) (all_places i ls))
among_all i j (l ∷ ls) (suc c) = omega (arith, among_all i j ls c, ap (times j) (flat_map-cons (places_in i) l ls), times_both j (places_in i l) (all_places i ls))

-- and so are those of two lists together
both_among : (i j : ℕ) (lists : List (List Receipt)) (c d : ℕ) → c < d → times j (places_in i (row lists c)) + times j (places_in i (row lists d)) ≤ times j (all_places i lists)
both_among i j [] c d less = omega arith
both_among i j (l ∷ ls) c zero less = absurd (omega (arith, less))
both_among i j (l ∷ ls) zero (suc d) less = omega (arith, among_all i j ls d, ap (times j) (flat_map-cons (places_in i) l ls), times_both j (places_in i l) (all_places i ls))
both_among i j (l ∷ ls) (suc c) (suc d) less =
    omega (arith, both_among i j ls c d (omega (arith, less)), ap (times j) (flat_map-cons (places_in i) l ls), times_both j (places_in i l) (all_places i ls))

-- two clerks have no place in common that occurs at most once
pub apart : (lists : List (List Receipt)) (c d k m : ℕ) (p q : Receipt) → c < d → at lists c k ≡ Some p → at lists d m ≡ Some q → p.shard ≡ q.shard → p.place ≡ q.place
    → times p.place (all_places p.shard lists) ≤ 1 → ⊥
apart lists c d k m p q less at_c at_d shard place once =
    let one = met (row lists c) k p at_c in
    let two = subst (λ (x : ℕ × ℕ). 1 ≤ times x.1 (places_in x.0 (row lists d))) (λ i. (sym shard i, sym place i)) (met (row lists d) m q at_d) in
    omega (arith, one, two, both_among p.shard p.place lists c d less, once)

-- a place that occurs is that of a receipt of some clerk
pub record MeetsAny (lists : List (List Receipt)) (i j : ℕ) : Type 0 where
  pub clerk : ℕ
  pub meets : Meets (row lists clerk) i j

pub meeting_any : (lists : List (List Receipt)) (i j : ℕ) → 1 ≤ times j (all_places i lists) → MeetsAny lists i j
meeting_any [] i j some = absurd (omega (arith, some))
meeting_any (l ∷ ls) i j some = by (times j (places_in i l)) refl (λ more. meeting_any ls i j more)
  where
    by : (n : ℕ) → times j (places_in i l) ≡ n → (1 ≤ times j (all_places i ls) → MeetsAny ls i j) → MeetsAny (l ∷ ls) i j
    by zero none rest =
        let m = rest (omega (arith, some, none, ap (times j) (flat_map-cons (places_in i) l ls), times_both j (places_in i l) (all_places i ls))) in
        record { clerk = suc m.clerk; meets = m.meets }
    by (suc n) more rest = record { clerk = 0; meets = meeting l i j (omega (arith, more)) }

-- nobody has a receipt of a place that does not occur
pub met_nowhere : (lists : List (List Receipt)) (i j c k : ℕ) (r : Receipt) → at lists c k ≡ Some r → r.shard ≡ i → r.place ≡ j → times j (all_places i lists) ≡ 0 → ⊥
met_nowhere lists i j c k r there shard place unmet =
    let one = subst (λ (x : ℕ × ℕ). 1 ≤ times x.1 (places_in x.0 (row lists c))) (λ n. (shard n, place n)) (met (row lists c) k r there) in
    omega (arith, one, among_all i j lists c, unmet)

-- how often all numbers below n occur in a list
abbrev total : ℕ → List ℕ → ℕ
total zero ks = 0
total (suc n) ks = total n ks + times n ks

total_nil : (n : ℕ) → total n [] ≡ 0
total_nil zero = refl
total_nil (suc n) = omega (arith, total_nil n)

total_above : (n k : ℕ) (ks : List ℕ) → n ≤ k → total n (k ∷ ks) ≡ total n ks
total_above zero k ks above = refl
total_above (suc n) k ks above =
    omega (arith, total_above n k ks (omega (arith, above)), times_cons n k ks ∙ ap (λ b. cond b 1 0 + times n ks) (ne_eqb k n (λ e. omega (arith, e, above))))

total_below : (n k : ℕ) (ks : List ℕ) → k < n → total n (k ∷ ks) ≡ total n ks + 1
total_below zero k ks below = absurd (omega (arith, below))
total_below (suc n) k ks below =
    elim (eqb_tells k n) [
      | inl e ↦ (let is = e.1 in omega (arith, total_above n k ks (omega (arith, is)), times_one n k ks is))
      | inr e ↦ (
          let apart = e.1 in
          let other = times_cons n k ks ∙ ap (λ b. cond b 1 0 + times n ks) (ne_eqb k n apart) in
          omega (arith, total_below n k ks (omega (arith, below, apart)), other))
    ]

-- a list of numbers below n has the length of the sum of their occurrences
total_length : (n : ℕ) (ks : List ℕ) → ((j : ℕ) → n ≤ j → times j ks ≡ 0) → total n ks ≡ length ks
total_length n [] none = total_nil n
total_length n (k ∷ ks) none =
    let rest = total_length n ks (λ j above. omega (arith, none j above, times_cons j k ks)) in
    elim (cases_lt k n) [
      | inl below ↦ omega (arith, total_below n k ks below, rest)
      | inr above ↦ absurd (omega (arith, none k above, times_one k k ks refl))
    ]

total_ones : (n : ℕ) (ks : List ℕ) → ((j : ℕ) → j < n → times j ks ≡ 1) → total n ks ≡ n
total_ones zero ks ones = refl
total_ones (suc n) ks ones = omega (arith, total_ones n ks (λ j below. ones j (omega (arith, below))), ones n (omega arith))

pub as_many : (n : ℕ) (ks : List ℕ) → AreBelow n ks → length ks ≡ n
as_many n ks below = sym (total_length n ks below.1) ∙ total_ones n ks below.0

-- there are as many first places as entries
pub length-first_places : (n : ℕ) → length (first_places n) ≡ n
length-first_places zero = refl
length-first_places (suc n) = length-append (first_places n) (n ∷ []) ∙ ap (λ m. m + 1) (length-first_places n) ∙ omega arith

-- the places of the receipts in hand are among the clerks' own
pub among_own : (i j : ℕ) (clerks : List ClerkView) → All (λ (c : ClerkView). AreOwn i c.receipts (row c.places i)) clerks
    → times j (all_places i (lists_of clerks)) ≤ times j (own_places i clerks)
among_own i j [] own = omega arith
among_own i j (c ∷ cs) own =
    let P : ClerkView → Type 0 = λ c. AreOwn i c.receipts (row c.places i) in
    let its = All-head P c cs own in
    omega (
      arith,
      ap (times j) (flat_map-cons (places_in i) c.receipts (lists_of cs)),
      times_both j (places_in i c.receipts) (all_places i (lists_of cs)),
      ap (times j) (flat_map-cons (λ (c : ClerkView). row c.places i) c cs),
      times_both j (row c.places i) (own_places i cs),
      ap (times j) its.is,
      times_both j its.gone (places_in i c.receipts),
      among_own i j cs (All-tail P c cs own),
    )
