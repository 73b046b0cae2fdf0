-- Shards with their keepers, and the tokens of new clerks.
use Rattle.std.proofs.Common.{◌≡◌, inl, inr, ◌≤◌, ◌<◌, ℕ, List, [], ◌∷◌, ◌++◌, length, map, refl, sym, ap, subst, ◌∙◌, arith, ◌+◌, ◌-◌, length-append, get_or, set, length-set}
use Rattle.std.specs.Prelude.{Some, slice_get, All}
use Rattle.std.specs.Option.{option_map}
use Rattle.std.proofs.lemmas.List.{length-map}
use Rattle.std.proofs.lemmas.Option.{slice_get-get_or, get_or_from_slice_get, slice_get-map, slice_get_within}
use Rattle.nmvs_history.specs.Views.{HistoryId, KeeperView, TokenView, no_table}
use Rattle.nmvs_rules.specs.declared.entry.Entry.{Entry}
use Rattle.nmvs_rules.specs.Entries.{AreEntries}
use Rattle.nmvs_rules.specs.Rules.{IsLawful}
use Rattle.nmvs_desk.specs.Views.{LockedView, IsNumbered}
use Rattle.nmvs_desk.specs.Opening.{table_of, AreLocked, IsFresh, IsOpened, IsNewToken, AreNew}
use Rattle.nmvs_desk.specs.Placing.{IsPartOf}
use Rattle.nmvs_desk.specs.Trails.{IsKept}
use Rattle.nmvs_desk.proofs.Lists.{set_cases, push_cases}

-- the shard of this number
abbrev opened_at : (ℕ → List Entry) → ℕ → ℕ → LockedView
opened_at opening left i = record { trail = opening i; index = i; parts = left }

pub locked_none : (opening : ℕ → List Entry) → AreLocked 8 0 opening []
locked_none opening = record { length = refl; each = λ i h at. absurd cc }

-- one more shard
pub locked_more : (n : ℕ) (opening : ℕ → List Entry) (shards : List LockedView) (new : LockedView) → AreLocked 8 n opening shards
    → new ≡ opened_at opening 8 n → AreLocked 8 (n + 1) opening (shards ++ new ∷ [])
locked_more n opening shards new so_far is = record {
  length = length-append shards (new ∷ []) ∙ ap (λ k. k + 1) so_far.length;
  each = λ i h at. elim (push_cases shards i new h at) [
    | inl e ↦ e.1 ∙ is ∙ ap (opened_at opening 8) (sym so_far.length ∙ sym e.0)
    | inr old ↦ so_far.each i h old
  ];
}

-- the keepers are fresh, and have the histories of these names
pub keepers_named : (tables : ℕ → HistoryId) (keepers : List KeeperView) → ((i : ℕ) → table_of (map (λ (k : KeeperView). k.table) keepers) i ≡ tables i) → All IsFresh keepers
    → (j : ℕ) (k : KeeperView) → slice_get keepers j ≡ Some k → (k.table ≡ tables j) × IsFresh k
keepers_named tables keepers named fresh j k at =
    let its = get_or_from_slice_get (map (λ (k : KeeperView). k.table) keepers) j k.table no_table (slice_get-map (λ (k : KeeperView). k.table) keepers j ∙ ap (option_map (λ (k : KeeperView). k.table)) at) in
    let is : get_or keepers j k ≡ k = get_or_from_slice_get keepers j k k at in
    (sym its ∙ named j, subst IsFresh is (fresh j k (slice_get_within keepers j k at)))

module _ (left n : ℕ) (opening : ℕ → List Entry) (shards : List LockedView) (locked : AreLocked left n opening shards) where
  at_place : (i : ℕ) (d : LockedView) → i < length shards → get_or shards i d ≡ opened_at opening left i
  at_place i d within = locked.each i (get_or shards i d) (slice_get-get_or shards i d within)

  pub numbered : IsNumbered (map (λ (h : LockedView). h.index) shards)
  numbered i within =
      let d = opened_at opening left i in
      let inside : i < length shards = omega (arith, within, length-map shards (λ (h : LockedView). h.index)) in
      get_or_from_slice_get (map (λ (h : LockedView). h.index) shards) i (get_or shards i d).index 0
      (slice_get-map (λ (h : LockedView). h.index) shards i ∙ ap (option_map (λ (h : LockedView). h.index)) (slice_get-get_or shards i d inside))
      ∙ ap (λ (h : LockedView). h.index) (at_place i d inside)

  pub few : n ≤ 8 → All (λ (h : LockedView). h.index < 8) shards
  few at_most k d within = omega (arith, ap (λ (h : LockedView). h.index) (at_place k d within), locked.length, at_most, within)

  -- once each clerk has a token of each shard
  pub opened : (clerks : ℕ) → left + clerks ≡ 8 → All (IsOpened clerks) shards
  opened clerks given k d within = omega (arith, ap (λ (h : LockedView). h.parts) (at_place k d within), given)

-- one more token is given of each of the first k shards
pub record AreGiven (left n k : ℕ) (opening : ℕ → List Entry) (shards : List LockedView) : Type 0 where
  pub length : length shards ≡ n
  pub given : (i : ℕ) (h : LockedView) → i < k → slice_get shards i ≡ Some h → h ≡ opened_at opening left i
  pub rest : (i : ℕ) (h : LockedView) → k ≤ i → slice_get shards i ≡ Some h → h ≡ opened_at opening (left + 1) i

pub given_none : (left n : ℕ) (opening : ℕ → List Entry) (shards : List LockedView) → AreLocked (left + 1) n opening shards → AreGiven left n 0 opening shards
given_none left n opening shards locked = record {
  length = locked.length;
  given = λ i h below at. absurd (omega (arith, below));
  rest = λ i h above at. locked.each i h at;
}

pub given_more : (left n k : ℕ) (opening : ℕ → List Entry) (shards : List LockedView) (old new : LockedView) → AreGiven left n k opening shards → k < n
    → slice_get shards k ≡ Some old → new ≡ record old { parts = old.parts - 1 } → AreGiven left n (k + 1) opening (set shards k new)
given_more left n k opening shards old new so_far within there is = record {
  length = length-set shards k new ∙ so_far.length;
  given = λ i h below at.
      elim (set_cases shards k i new h at) [
        | inl e ↦ e.1 ∙ now ∙ ap (opened_at opening left) (sym e.0)
        | inr e ↦ (let apart = e.0 in so_far.given i h (omega (arith, below, apart)) e.1)
      ];
  rest = λ i h above at.
      elim (set_cases shards k i new h at) [
        | inl e ↦ absurd (omega (arith, e.0, above))
        | inr e ↦ so_far.rest i h (omega (arith, above)) e.1
      ];
}
  where
    now : new ≡ opened_at opening left k
    now =
        let was = so_far.rest k old (omega arith) there in
        let parts : old.parts - 1 ≡ left = omega (arith, ap (λ (h : LockedView). h.parts) was) in
        is ∙ (λ j. record { trail = (was j).trail; index = (was j).index; parts = parts j })

pub given_all : (left n k : ℕ) (opening : ℕ → List Entry) (shards : List LockedView) → AreGiven left n k opening shards → n ≤ k → AreLocked left n opening shards
given_all left n k opening shards given all = record {
  length = given.length;
  each = λ i h at. given.given i h (omega (arith, slice_get_within shards i h at, given.length, all)) at;
}

pub new_none : (tables : ℕ → HistoryId) (count : ℕ) (opening : ℕ → List Entry) → AreNew tables count opening 0 []
new_none tables count opening = record { length = refl; each = λ i k at. absurd cc }

-- one more token of a clerk
pub new_more : (tables : ℕ → HistoryId) (count : ℕ) (opening : ℕ → List Entry) (n : ℕ) (tokens : List TokenView) (k : TokenView) (h : LockedView) → AreNew tables count opening n tokens
    → (h.trail ≡ opening n) × (h.index ≡ n) → k ≡ record { table = tables h.index; seen = h.trail; places = [] } → IsKept count h → AreNew tables count opening (n + 1) (tokens ++ k ∷ [])
new_more tables count opening n tokens k h so_far there is kept = record {
  length = length-append tokens (k ∷ []) ∙ ap (λ m. m + 1) so_far.length;
  each = λ i x at.
      elim (push_cases tokens i k x at) [
        | inl e ↦ subst (λ (p : ℕ × TokenView). IsNewToken tables count opening p.0 p.1) (λ j. ((sym so_far.length ∙ sym e.0) j, sym e.1 j)) now
        | inr old ↦ so_far.each i x old
      ];
}
  where
    now : IsNewToken tables count opening n k
    now = record {
      is = is ∙ (λ j. record { table = tables (there.1 j); seen = there.0 j; places = [] });
      lawful = subst (λ t. IsLawful t) there.0 kept.lawful;
      in_range = subst (λ t. AreEntries t) there.0 kept.in_range;
      placed = subst (λ (p : ℕ × List Entry). IsPartOf count p.0 p.1) (λ j. (there.1 j, there.0 j)) kept.placed;
    }
