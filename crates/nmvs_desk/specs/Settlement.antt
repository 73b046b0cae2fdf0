-- The promises of a settlement about the trails of all shards and the receipts that all clerks have in hand (own). Shards,
-- places, clerks and receipts count from 0.
use Rattle.std.specs.Prelude.{ℕ, zero, suc, ◌≡◌, ◌+◌, ◌<◌, ◌==◌, List, [], ◌∷◌, ◌++◌, Option, Some, length, map, filter}
use Rattle.std.specs.List.{slice_get, slice_index_or, flat_map}
use mathlib.Core.List.{IsPrefix}
use Rattle.nmvs_history.specs.Views.{AreBelow}
use Rattle.nmvs_rules.specs.declared.entry.Entry.{Entry}
use Rattle.nmvs_desk.specs.declared.settled.Owner.{Owner}
use Rattle.nmvs_desk.specs.declared.ask.Receipt.{Receipt}
use Rattle.nmvs_desk.specs.Views.{ClerkView}

-- the list of this number, or the empty list if there is none
abbrev pub row : {X : Type 0} → List (List X) → ℕ → List X
row lists i = slice_index_or lists i []

-- the element at this place of this list, if there is one
abbrev pub at : {X : Type 0} → List (List X) → ℕ → ℕ → Option X
at lists i j = slice_get (row lists i) j

abbrev pub owner : ℕ → ℕ → Owner
owner clerk receipt = record { clerk = clerk; receipt = receipt }

-- the receipts that all clerks have in hand
abbrev pub lists_of : List ClerkView → List (List Receipt)
lists_of clerks = map (λ (c : ClerkView). c.receipts) clerks

-- the places of the receipts that name a shard
abbrev pub places_in : ℕ → List Receipt → List ℕ
places_in shard receipts = map (λ (r : Receipt). r.place) (filter (λ (r : Receipt). r.shard == shard) receipts)

-- a clerk's own places of a shard are those of receipts that it let go, and then those of the receipts in hand
pub record AreOwn (shard : ℕ) (receipts : List Receipt) (places : List ℕ) : Type 0 where
  pub gone : List ℕ
  pub is : places ≡ gone ++ places_in shard receipts

-- the places of these clerks in a shard, clerk by clerk
abbrev pub own_places : ℕ → List ClerkView → List ℕ
own_places shard clerks = flat_map (λ (c : ClerkView). row c.places shard) clerks

-- the places of the first n entries
abbrev pub first_places : ℕ → List ℕ
first_places zero = []
first_places (suc n) = first_places n ++ n ∷ []

-- each trail begins with the trail of the opening, and each of its places is a place of the opening or of exactly one clerk
pub record AreDivided (count : ℕ) (opening : ℕ → List Entry) (trails : List (List Entry)) (clerks : List ClerkView) : Type 0 where
  pub begins : (i : ℕ) → i < count → IsPrefix (opening i) (row trails i)
  pub places : (i : ℕ) → i < count → AreBelow (length (row trails i)) (first_places (length (opening i)) ++ own_places i clerks)
  pub many : (i : ℕ) → i < count → length (row trails i) ≡ length (opening i) + length (own_places i clerks)

-- the places of a clerk's receipts rise in each shard, in the order of the receipts
abbrev pub Rises : List Receipt → Type 0
Rises receipts =
    (k m : ℕ) (earlier later : Receipt) → k < m → slice_get receipts k ≡ Some earlier → slice_get receipts m ≡ Some later
    → earlier.shard ≡ later.shard → earlier.place < later.place

-- the trails begin with all that the clerk has seen. The receipts that it has in hand stand in them, at the clerk's own
-- places, which rise.
pub record IsSettled (trails : List (List Entry)) (c : ClerkView) : Type 0 where
  pub seen : (i : ℕ) → IsPrefix (row c.sights i) (row trails i)
  pub stand : (n : ℕ) (r : Receipt) → slice_get c.receipts n ≡ Some r → at trails r.shard r.place ≡ Some r.entry
  pub own : (i : ℕ) → i < length trails → AreOwn i c.receipts (row c.places i)
  pub rising : Rises c.receipts

-- the owner's receipt has this shard and this place, and the entry that stands there
pub record IsOwner (trails : List (List Entry)) (lists : List (List Receipt)) (i j : ℕ) (o : Owner) : Type 0 where
  pub receipt : Receipt
  pub is : at lists o.clerk o.receipt ≡ Some receipt
  pub shard : receipt.shard ≡ i
  pub place : receipt.place ≡ j
  pub entry : at trails receipt.shard receipt.place ≡ Some receipt.entry

-- each receipt in hand owns exactly its own place, and a place that nobody owns is that of no receipt in hand
pub record IsOwned (trails : List (List Entry)) (lists : List (List Receipt)) (owners : List (List (Option Owner))) : Type 0 where
  pub shards : length owners ≡ length trails
  pub one_each : (i : ℕ) → length (row owners i) ≡ length (row trails i)
  pub owned : (i j : ℕ) (o : Owner) → at owners i j ≡ Some (Some o) → IsOwner trails lists i j o
  pub owning : (clerk number : ℕ) (r : Receipt) → at lists clerk number ≡ Some r → at owners r.shard r.place ≡ Some (Some (owner clerk number))
