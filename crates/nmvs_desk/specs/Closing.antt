-- Shards that take the clerks' tokens back in, and the owners of their entries (own).
use Rattle.std.specs.Prelude.{ℕ, ◌≡◌, ◌+◌, ◌<◌, ◌≤◌, ◌++◌, List, Option, None, Some, length, map, replicate, slice_set}
use Rattle.std.specs.List.{slice_get, flat_map}
use Rattle.nmvs_history.specs.Views.{HistoryId, ClosingView, TokenView, times}
use Rattle.nmvs_rules.specs.declared.entry.Entry.{Entry}
use Rattle.nmvs_desk.specs.declared.settled.Owner.{Owner}
use Rattle.nmvs_desk.specs.declared.ask.Receipt.{Receipt}
use Rattle.nmvs_desk.specs.Views.{LockedView, ClerkView}
use Rattle.nmvs_desk.specs.Settlement.{row, at, owner, places_in, own_places, first_places, Rises}

-- the trails of locked shards
abbrev pub trails_of : List LockedView → List (List Entry)
trails_of shards = map (λ (h : LockedView). h.trail) shards

-- the places of all receipts that name a shard, clerk by clerk
abbrev pub all_places : ℕ → List (List Receipt) → List ℕ
all_places shard lists = flat_map (places_in shard) lists

-- a shard of this history out of its lock, with the token of the trail of the opening
abbrev pub unlocked : (ℕ → HistoryId) → (ℕ → List Entry) → LockedView → ClosingView
unlocked tables opening h =
    record { table = tables h.index; parts = h.parts + 1; seen = h.trail; places = first_places (length (opening h.index)) }

-- a closing history with one more token
abbrev pub with_token : ClosingView → TokenView → ClosingView
with_token u k = record { table = u.table; parts = u.parts + 1; seen = u.seen; places = u.places ++ k.places }

-- the closing histories of these trails, once the tokens of these clerks are back
pub record AreClosing (tables : ℕ → HistoryId) (opening : ℕ → List Entry) (trails : List (List Entry)) (parts : ℕ) (clerks : List ClerkView) (closings : List ClosingView) : Type 0 where
  pub shards : length closings ≡ length trails
  pub each : (i : ℕ) → i < length trails
      → slice_get closings i
      ≡ Some (record { table = tables i; parts = parts; seen = row trails i; places = first_places (length (opening i)) ++ own_places i clerks })

-- the trails that closing histories have seen
abbrev pub seen_in : List ClosingView → List (List Entry)
seen_in closings = map (λ (u : ClosingView). u.seen) closings

-- each receipt stands, each clerk's places rise, and no place is that of two receipts
pub record IsWhole (trails : List (List Entry)) (lists : List (List Receipt)) : Type 0 where
  pub stand : (clerk number : ℕ) (r : Receipt) → at lists clerk number ≡ Some r → at trails r.shard r.place ≡ Some r.entry
  pub rising : (clerk : ℕ) → Rises (row lists clerk)
  pub once : (i j : ℕ) → times j (all_places i lists) ≤ 1

-- the same lists with another element at this place of this list
abbrev pub put : {X : Type 0} → List (List X) → ℕ → ℕ → X → List (List X)
put lists i j x = slice_set lists i (slice_set (row lists i) j x)

-- owners for these trails, before any is noted
abbrev pub blank_owners : List (List Entry) → List (List (Option Owner))
blank_owners trails = map (λ (t : List Entry). replicate (length t) None) trails

-- the lists have the same number of rows, each of the same length
pub record HaveShape {X Y : Type 0} (xs : List (List X)) (ys : List (List Y)) : Type 0 where
  pub lists : length xs ≡ length ys
  pub rows : (i : ℕ) → length (row xs i) ≡ length (row ys i)

-- the first n receipts of a clerk are noted at their places, and nothing else
pub record Notes (clerk : ℕ) (receipts : List Receipt) (n : ℕ) (old new : List (List (Option Owner))) : Type 0 where
  pub shape : HaveShape new old
  pub noted : (k : ℕ) (r : Receipt) → k < n → slice_get receipts k ≡ Some r → at new r.shard r.place ≡ Some (Some (owner clerk k))
  pub kept : (i j : ℕ) → ((k : ℕ) (r : Receipt) → k < n → slice_get receipts k ≡ Some r → r.shard ≡ i → r.place ≡ j → ⊥) → at new i j ≡ at old i j

-- the receipts of the first n clerks are noted at their places, and nothing else
pub record AreNoted (lists : List (List Receipt)) (n : ℕ) (old new : List (List (Option Owner))) : Type 0 where
  pub shape : HaveShape new old
  pub noted : (clerk number : ℕ) (r : Receipt) → clerk < n → at lists clerk number ≡ Some r → at new r.shard r.place ≡ Some (Some (owner clerk number))
  pub kept : (i j : ℕ) → ((clerk number : ℕ) (r : Receipt) → clerk < n → at lists clerk number ≡ Some r → r.shard ≡ i → r.place ≡ j → ⊥) → at new i j ≡ at old i j

-- no two clerks have a place in common
abbrev pub AreApart : List (List Receipt) → Type 0
AreApart lists =
    (c d k m : ℕ) (p q : Receipt) → c < d → at lists c k ≡ Some p → at lists d m ≡ Some q → p.shard ≡ q.shard → p.place ≡ q.place → ⊥

-- each receipt's place is within its row
abbrev pub HavePlaces : List (List Receipt) → List (List (Option Owner)) → Type 0
HavePlaces lists owners = (clerk number : ℕ) (r : Receipt) → at lists clerk number ≡ Some r → r.place < length (row owners r.shard)
