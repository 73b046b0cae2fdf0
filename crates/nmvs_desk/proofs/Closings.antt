-- Histories that take the clerks' tokens back in.
use Rattle.std.proofs.Common.{◌≡◌, ◌<◌, ◌≤◌, ◌+◌, ◌-◌, ◌++◌, ◌∙◌, ℕ, zero, suc, List, [], ◌∷◌, length, map, set, get_or, refl, sym, ap, subst, arith, inl, inr, append-nil, append_assoc}
use Rattle.std.specs.Prelude.{Option, None, Some, slice_get, All}
use Rattle.std.specs.Option.{option_map}
use Rattle.std.specs.List.{remove}
use Rattle.std.proofs.lemmas.Bool.Decides.{eqb_tells}
use Rattle.std.proofs.lemmas.Grind.{flat_map-append}
use Rattle.std.proofs.lemmas.List.{length-map}
use Rattle.std.proofs.lemmas.Option.{slice_get-get_or, slice_get_within, slice_get-map, same_Some, get_or_from_slice_get}
use mathlib.Core.List.{IsPrefix}
use Rattle.nmvs_history.specs.Views.{HistoryId, ClosingView, TokenView, AreBelow}
use Rattle.nmvs_history.proofs.Beginnings.{prefix_get}
use Rattle.nmvs_rules.specs.declared.entry.Entry.{Entry}
use Rattle.nmvs_desk.specs.declared.ask.Receipt.{Receipt}
use Rattle.nmvs_desk.specs.Clerks.{IsClerk}
use Rattle.nmvs_desk.specs.Closing.{trails_of, seen_in, unlocked, with_token, AreClosing}
use Rattle.nmvs_desk.specs.Opening.{IsOpened}
use Rattle.nmvs_desk.specs.Settlement.{row, at, first_places, own_places, IsSettled}
use Rattle.nmvs_desk.specs.Views.{LockedView, ClerkView, IsNumbered, sights_of, places_of}
use Rattle.nmvs_desk.proofs.Asked.{sight_of, own_of}
use Rattle.nmvs_desk.proofs.Clerks.{own}
use Rattle.nmvs_desk.proofs.Lists.{same_list, set_same, set_other}

-- the own places of one more clerk
own_places-push : (i : ℕ) (clerks : List ClerkView) (c : ClerkView) → own_places i (clerks ++ c ∷ []) ≡ own_places i clerks ++ row c.places i
own_places-push i clerks c =
    let f : ClerkView → List ℕ = λ c. row c.places i in
    flat_map-append f clerks (c ∷ []) ∙ ap (λ l. own_places i clerks ++ l) (append-nil (f c))

-- a shard without a token has an empty sight
nothing_seen : (tokens : List TokenView) (i : ℕ) → slice_get tokens i ≡ None → row (sights_of tokens) i ≡ []
nothing_seen [] i none = refl
nothing_seen (t ∷ ts) zero none = absurd cc
nothing_seen (t ∷ ts) (suc i) none = nothing_seen ts i none

abbrev closing_of : (ℕ → HistoryId) → (ℕ → List Entry) → List (List Entry) → ℕ → List ClerkView → ℕ → ClosingView
closing_of tables opening trails parts clerks i =
    record { table = tables i; parts = parts; seen = row trails i; places = first_places (length (opening i)) ++ own_places i clerks }

-- each token of a clerk is of the history that takes it in
module _ (tables : ℕ → HistoryId) (opening : ℕ → List Entry) (count : ℕ) (trails : List (List Entry)) (parts : ℕ) (clerks : List ClerkView) (closings : List ClosingView) (closing : AreClosing tables opening trails parts clerks closings) (tokens : List TokenView) (receipts : List Receipt) (is : IsClerk tables count tokens receipts) where
  closing_at : (i : ℕ) (u : ClosingView) → slice_get closings i ≡ Some u → u ≡ closing_of tables opening trails parts clerks i
  closing_at i u at = same_Some u (closing_of tables opening trails parts clerks i) (sym at ∙ closing.each i (omega (arith, slice_get_within closings i u at, closing.shards)))

  pub same_tables : (i : ℕ) (u : ClosingView) (k : TokenView) → slice_get closings i ≡ Some u → slice_get tokens i ≡ Some k → k.table ≡ u.table
  same_tables i u k at_u at_k = (is.each i k at_k).table ∙ sym (ap (λ (x : ClosingView). x.table) (closing_at i u at_u))

  module _ (many : length closings ≡ count) (after : List ClosingView) (as_many : length after ≡ length closings) (taken : (i : ℕ) (u : ClosingView) (k : TokenView) → slice_get closings i ≡ Some u → slice_get tokens i ≡ Some k → (slice_get after i ≡ Some (with_token u k)) × IsPrefix k.seen u.seen) where
    -- the token of each shard below their count
    token_at : (i : ℕ) → i < length trails → (k : TokenView) × (slice_get tokens i ≡ Some k)
    token_at i within =
        let d : TokenView = record { table = tables i; seen = []; places = [] } in
        (get_or tokens i d, slice_get-get_or tokens i d (omega (arith, within, closing.shards, many, is.shards)))

    pub closing_then : (c : ClerkView) → places_of tokens ≡ c.places → AreClosing tables opening trails (parts + 1) (clerks ++ c ∷ []) after
    closing_then c owned = record {
      shards = as_many ∙ closing.shards;
      each = λ i within.
          let k = token_at i within in
          let u = closing_of tables opening trails parts clerks i in
          let first = first_places (length (opening i)) in
          let own : k.0.places ≡ row c.places i = sym (own_of tokens i k.0 k.1) ∙ ap (λ l. row l i) owned in
          (taken i u k.0 (closing.each i within) k.1).0
          ∙ ap (λ l. Some (record { table = tables i; parts = parts + 1; seen = row trails i; places = l }))
          (append_assoc first (own_places i clerks) k.0.places ∙ ap (λ l. first ++ l) (ap (λ l. own_places i clerks ++ l) own ∙ sym (own_places-push i clerks c)));
    }

    begins : (i : ℕ) → IsPrefix (row (sights_of tokens) i) (row trails i)
    begins i = by (slice_get tokens i) refl
      where
        by : (x : Option TokenView) → slice_get tokens i ≡ x → IsPrefix (row (sights_of tokens) i) (row trails i)
        by None none = subst (λ t. IsPrefix t (row trails i)) (sym (nothing_seen tokens i none)) (row trails i, refl)
        by (Some k) some =
            let within : i < length trails = omega (arith, slice_get_within tokens i k some, closing.shards, many, is.shards) in
            subst (λ t. IsPrefix t (row trails i)) (sym (sight_of tokens i k some)) (taken i (closing_of tables opening trails parts clerks i) k (closing.each i within) some).1

    pub settled_then : (c : ClerkView) → sights_of tokens ≡ c.sights → places_of tokens ≡ c.places → receipts ≡ c.receipts → IsSettled trails c
    settled_then c sights owned held =
        subst (λ (p : List (List Entry) × (List (List ℕ) × List Receipt)). IsSettled trails (record { seen = c.seen; sights = p.0; places = p.1.0; receipts = p.1.1; keeps = c.keeps })) (λ i. (sights i, (owned i, held i))) (record {
          seen = begins;
          stand = λ n r there. (let it = is.stand n r there in
              prefix_get it.token.seen (row trails r.shard) r.place r.entry (subst (λ t. IsPrefix t (row trails r.shard)) (sight_of tokens r.shard it.token it.is) (begins r.shard)) it.stands);
          own = λ i within. own tables count tokens receipts is i (omega (arith, within, closing.shards, many));
          rising = is.rising;
        })

-- a numbered shard, once it is out of its lock
module _ (locked : List LockedView) (numbered : IsNumbered (map (λ (h : LockedView). h.index) locked)) where
  pub shard_at : (i : ℕ) → i < length locked → (h : LockedView) × (slice_get locked i ≡ Some h) × (h.index ≡ i) × (row (trails_of locked) i ≡ h.trail)
  shard_at i inside =
      let d : LockedView = record { trail = []; index = 0; parts = 0 } in
      let h = get_or locked i d in
      let at = slice_get-get_or locked i d inside in
      let index = sym (get_or_from_slice_get (map (λ (h : LockedView). h.index) locked) i h.index 0 (slice_get-map (λ (h : LockedView). h.index) locked i ∙ ap (option_map (λ (h : LockedView). h.index)) at))
      ∙ numbered i (omega (arith, inside, length-map locked (λ (h : LockedView). h.index))) in
      (h, at, index, get_or_from_slice_get (trails_of locked) i h.trail [] (slice_get-map (λ (h : LockedView). h.trail) locked i ∙ ap (option_map (λ (h : LockedView). h.trail)) at))

  -- each trail begins with the trail of the opening
  pub all_begin : (opening : ℕ → List Entry) → All (λ (h : LockedView). IsPrefix (opening h.index) h.trail) locked → (i : ℕ) → i < length locked → IsPrefix (opening i) (row (trails_of locked) i)
  all_begin opening begin i inside =
      let s = shard_at i inside in
      let P : LockedView → Type 0 = λ h. IsPrefix (opening h.index) h.trail in
      subst (λ (p : ℕ × List Entry). IsPrefix (opening p.0) p.1) (λ j. (s.2 j, sym s.3 j)) (subst P (get_or_from_slice_get locked i s.0 s.0 s.1) (begin i s.0 inside))

  pub closing_first : (tables : ℕ → HistoryId) (opening : ℕ → List Entry) (clerks : ℕ) → All (IsOpened clerks) locked
      → clerks ≤ 8 → AreClosing tables opening (trails_of locked) (9 - clerks) [] (map (unlocked tables opening) locked)
  closing_first tables opening clerks opened few = record {
    shards = length-map locked (unlocked tables opening) ∙ sym (length-map locked (λ (h : LockedView). h.trail));
    each = λ i within.
        let inside : i < length locked = omega (arith, within, length-map locked (λ (h : LockedView). h.trail)) in
        let s = shard_at i inside in
        let h = s.0 in
        let is : h.parts + clerks ≡ 8 = subst (IsOpened clerks) (get_or_from_slice_get locked i h h s.1) (opened i h inside) in
        let parts : h.parts + 1 ≡ 9 - clerks = omega (arith, is, few) in
        let places = ap (λ j. first_places (length (opening j))) s.2 ∙ sym (append-nil (first_places (length (opening i)))) in
        slice_get-map (unlocked tables opening) locked i ∙ ap (option_map (unlocked tables opening)) s.1
        ∙ (λ j. Some (record { table = tables (s.2 j); parts = parts j; seen = sym s.3 j; places = places j }));
  }

-- with all parts, each history is that of its trail
pub all_back : (tables : ℕ → HistoryId) (opening : ℕ → List Entry) (trails : List (List Entry)) (clerks : List ClerkView) (closings : List ClosingView) → AreClosing tables opening trails 9 clerks closings
    → All (λ (u : ClosingView). u.parts ≡ 9) closings
all_back tables opening trails clerks closings closing i d within =
    let u = get_or closings i d in
    let here = sym (slice_get-get_or closings i d within) ∙ closing.each i (omega (arith, within, closing.shards)) in
    ap (λ (x : ClosingView). x.parts) (same_Some u (closing_of tables opening trails 9 clerks i) here)

pub all_seen : (tables : ℕ → HistoryId) (opening : ℕ → List Entry) (trails : List (List Entry)) (parts : ℕ) (clerks : List ClerkView) (closings : List ClosingView)
    → AreClosing tables opening trails parts clerks closings → seen_in closings ≡ trails
all_seen tables opening trails parts clerks closings closing =
    same_list (seen_in closings) trails (length-map closings (λ (u : ClosingView). u.seen) ∙ closing.shards)
    (λ i within.
    slice_get-map (λ (u : ClosingView). u.seen) closings i ∙ ap (option_map (λ (u : ClosingView). u.seen)) (closing.each i within)
    ∙ sym (slice_get-get_or trails i [] within))

pub all_below : (tables : ℕ → HistoryId) (opening : ℕ → List Entry) (trails : List (List Entry)) (clerks : List ClerkView) (closings : List ClosingView) → AreClosing tables opening trails 9 clerks closings
    → All (λ (u : ClosingView). AreBelow (length u.seen) u.places) closings → (i : ℕ) → i < length trails → AreBelow (length (row trails i)) (first_places (length (opening i)) ++ own_places i clerks)
all_below tables opening trails clerks closings closing below i within =
    let d = closing_of tables opening trails 9 clerks i in
    let is : get_or closings i d ≡ d = get_or_from_slice_get closings i d d (closing.each i within) in
    subst (λ (u : ClosingView). AreBelow (length u.seen) u.places) is (below i d (omega (arith, within, closing.shards)))

-- the first n histories have taken their tokens
pub record AreTaken (n : ℕ) (tokens : List TokenView) (old new : List ClosingView) : Type 0 where
  pub taken : (i : ℕ) (u : ClosingView) (k : TokenView) → i < n → slice_get old i ≡ Some u → slice_get tokens i ≡ Some k
      → (slice_get new i ≡ Some (with_token u k)) × IsPrefix k.seen u.seen
  pub rest : (i : ℕ) → n ≤ i → slice_get new i ≡ slice_get old i

pub taken_none : (tokens : List TokenView) (old : List ClosingView) → AreTaken 0 tokens old old
taken_none tokens old = record { taken = λ i u k below at_u at_k. absurd (omega (arith, below)); rest = λ i above. refl }

-- the rest of a list whose first element was taken
pub rest_get : {X : Type 0} (xs : List X) (j : ℕ) → slice_get (remove xs 0) j ≡ slice_get xs (suc j)
rest_get [] j = refl
rest_get (x ∷ xs) j = refl

pub rest_row : {X : Type 0} (lists : List (List X)) (j : ℕ) → row (remove lists 0) j ≡ row lists (suc j)
rest_row [] j = refl
rest_row (l ∷ ls) j = refl

pub taken_more : (n : ℕ) (tokens : List TokenView) (old mid : List ClosingView) (u v : ClosingView) (k : TokenView) → AreTaken n tokens old mid → slice_get mid n ≡ Some u
    → slice_get tokens n ≡ Some k → v ≡ with_token u k → IsPrefix k.seen u.seen → AreTaken (n + 1) tokens old (set mid n v)
taken_more n tokens old mid u v k so_far at_u at_k is begins = record {
  taken = λ i x y below at_x at_y.
      elim (eqb_tells i n) [
        | inl e ↦ (
            let here = e.1 in
            let same_u : u ≡ x = same_Some u x (sym at_u ∙ so_far.rest n (omega arith) ∙ ap (slice_get old) (sym here) ∙ at_x) in
            let same_k : k ≡ y = same_Some k y (sym at_k ∙ ap (slice_get tokens) (sym here) ∙ at_y) in
            let put = ap (slice_get (set mid n v)) here ∙ set_same mid n v (slice_get_within mid n u at_u) ∙ ap Some is in
            (put ∙ (λ j. Some (with_token (same_u j) (same_k j))), subst (λ (p : TokenView × ClosingView). IsPrefix p.0.seen p.1.seen) (λ j. (same_k j, same_u j)) begins))
        | inr e ↦ (
            let apart = e.1 in
            let was = so_far.taken i x y (omega (arith, below, apart)) at_x at_y in
            (set_other mid n i v apart ∙ was.0, was.1))
      ];
  rest = λ i above. set_other mid n i v (λ e. omega (arith, e, above)) ∙ so_far.rest i (omega (arith, above));
}
