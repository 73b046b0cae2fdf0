-- Two trails that are compared, product code by product code (own).
use Rattle.std.specs.Prelude.{◌≡◌, ◌≢◌, ◌≤◌, ◌+◌, ℕ, Bool, List, ◌++◌, Option, Some, length, take, drop, filter, slice_get, slice_index_or, unwrap_or}
use Rattle.std.specs.HashMap.{HashMap, get}
use Rattle.std.specs.List.{position_or_len}
use Rattle.nmvs_identifier.specs.ProductCode.{ProductCode}
use Rattle.nmvs_identifier.specs.Texts.{same_text}
use Rattle.nmvs_rules.specs.declared.entry.Entry.{Entry}
use Rattle.nmvs_rules.specs.Questions.{code_of}
use Rattle.nmvs_rules.specs.Trail.{has_code}
use Rattle.nmvs_inspect.specs.declared.comparison.Departure.{Departure}
use Rattle.nmvs_inspect.specs.declared.comparison.Walk.{Walk}

-- the entries about a product code, in order
abbrev pub about : ProductCode → List Entry → List Entry
about c t = filter (has_code c) t

-- a new trail goes on from an old one: its entries about each product code begin with the old one's, in order
abbrev pub GoesOn : List Entry → List Entry → Type 0
GoesOn old new = (c : ProductCode) → (more : List Entry) × (about c new ≡ about c old ++ more)

-- the entry that a new trail has in the place of an entry that follows these in an old one. The same number of entries
-- about the product code stands before it.
abbrev pub in_place : List Entry → Entry → List Entry → Option Entry
in_place before e new = let c = code_of e.put.question in slice_get (about c new) (length (about c before))

-- the first departure of a new trail from an old one. The new trail goes on from the entries before d, and has another
-- entry in its place, or none.
pub record Departs (old new : List Entry) (d : Departure) : Type 0 where
  pub place : ℕ
  pub number : d.number ≡ place + 1
  pub stands : slice_get old place ≡ Some d.entry
  pub before : GoesOn (take place old) new
  pub found : d.found ≡ in_place (take place old) d.entry new
  pub other : d.found ≢ Some d.entry

-- whether two product codes are the same
abbrev pub same_code : ProductCode → ProductCode → Bool
same_code = same_text

-- the place of the first entry about a product code from a place on, or the trail's length if there is none
abbrev pub seek : ProductCode → List Entry → ℕ → ℕ
seek c t n = n + position_or_len (has_code c) (drop n t)

-- the place of a walk with a product code: the trail's length if no entry about the code is left
abbrev pub head : {S : Type 0} → HashMap ProductCode ℕ S → ProductCode → Option ℕ
head m c = get same_text m c

abbrev pub head_of : Walk → ProductCode → ℕ
head_of w c = unwrap_or (head w.heads c) (length w.nexts.items)

-- each entry from a place on has the place of the next entry about its product code
pub record AreNexts (from : ℕ) (t : List Entry) (nexts : List ℕ) : Type 0 where
  pub whole : length nexts ≡ length t
  pub right : (i : ℕ) → (e : Entry) → from ≤ i → slice_get t i ≡ Some e → slice_index_or nexts i 0 ≡ seek (code_of e.put.question) t (i + 1)

-- a walk along a trail before its first entry
pub record StandsBefore (w : Walk) (t : List Entry) : Type 0 where
  pub nexts : AreNexts 0 t w.nexts.items
  pub heads : (c : ProductCode) → head_of w c ≡ seek c t 0

-- a walk along a new trail that passed the entries of an old one. Of each product code it passed these alone, and it
-- stands at the first entry that is left.
pub record HasPassed (w : Walk) (old new : List Entry) : Type 0 where
  pub nexts : AreNexts 0 new w.nexts.items
  pub left : (c : ProductCode) → about c new ≡ about c old ++ about c (drop (head_of w c) new)
  pub first : (c : ProductCode) → seek c new (head_of w c) ≡ head_of w c
