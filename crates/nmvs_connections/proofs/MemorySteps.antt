-- The connection whose buffers take most memory, found by going over all of them.
use Rattle.std.proofs.Common.{◌≡◌, ◌≤◌, ◌<◌, ◌+◌, ◌-◌, ◌/◌, ◌⊎◌, ◌∙◌, inl, inr, ℕ, zero, suc, List, [], ◌∷◌, Option, Some, None, IsSome, SomeIff, unwrap_or, length, slice_index_or, slice_set, Result, Ok, Err, IfOk, OnErr, refl, sym, ap, subst, arith, rules}
use Rattle.std.proofs.lemmas.Bool.Decides.{eqb_tells}
use Rattle.std.specs.List.{Contains}
use Rattle.slab.specs.Slab.{Slab, Updates, get, entries, with_value}
use Rattle.slab.proofs.SlabLemmas.{ContainsKey-within, Contains-cons, Contains-cons_cases, Contains-entries}
use Rattle.nmvs_connections.specs.declared.connection.Connection.{Connection}
use Rattle.nmvs_connections.specs.Memory.{IsLargest, memory_in, memory_of}
use Rattle.nmvs_connections.specs.Pools.{share_of}

-- the connection under this key takes this much memory; if there is no key, it is 0
abbrev pub Takes : {L : Type 0} → Slab (Connection L) → ℕ → Option ℕ → Type 0
Takes connections most None = most ≡ 0
Takes {L} connections most (Some key) = (connection : Connection L) × (get connections key ≡ Some connection) × (connection.memory ≡ most)

-- the largest of the connections that were compared
pub record LargestSoFar {L : Type 0} (connections : Slab (Connection L)) (left : List (ℕ × Connection L)) (most : ℕ) (largest : Option ℕ) : Type 0 where
  pub seen : (key : ℕ) (connection : Connection L) → get connections key ≡ Some connection → Contains left (key, connection) ⊎ (connection.memory ≤ most)
  pub left_is : (key : ℕ) (connection : Connection L) → Contains left (key, connection) → get connections key ≡ Some connection
  pub takes : Takes connections most largest

pub largest_first : {L : Type 0} (connections : Slab (Connection L)) → LargestSoFar connections (entries connections) 0 None
largest_first connections = record {
  seen = λ key connection there. inl ((Contains-entries connections key connection).1 there);
  left_is = λ key connection listed. (Contains-entries connections key connection).0 listed;
  takes = refl;
}

-- one more connection was compared
seen_more : {L : Type 0} (connections : Slab (Connection L)) (key : ℕ) (one : Connection L) (left : List (ℕ × Connection L)) (most most' : ℕ) (largest : Option ℕ)
    → LargestSoFar connections ((key, one) ∷ left) most largest → most ≤ most' → one.memory ≤ most'
    → (other : ℕ) (connection : Connection L) → get connections other ≡ Some connection → Contains left (other, connection) ⊎ (connection.memory ≤ most')
seen_more {L} connections key one left most most' largest so more within other connection there = elim (so.seen other connection there) [
  | inl listed ↦ elim (Contains-cons_cases _ _ _ listed) [
    | inl same ↦ inr (subst (λ (e : ℕ × Connection L). e.1.memory ≤ most') same within)
    | inr rest ↦ inl rest
  ]
  | inr past ↦ inr (omega (arith, past, more))
]

pub largest_new : {L : Type 0} (connections : Slab (Connection L)) (key : ℕ) (one : Connection L) (left : List (ℕ × Connection L)) (most : ℕ) (largest : Option ℕ)
    → LargestSoFar connections ((key, one) ∷ left) most largest → most < one.memory → LargestSoFar connections left one.memory (Some key)
largest_new connections key one left most largest so larger = record {
  seen = seen_more connections key one left most one.memory largest so (omega (arith, larger)) (omega arith);
  left_is = λ other connection listed. so.left_is other connection (Contains-cons _ _ _ listed);
  takes = (one, so.left_is key one (0, omega arith, refl), refl);
}

pub largest_still : {L : Type 0} (connections : Slab (Connection L)) (key : ℕ) (one : Connection L) (left : List (ℕ × Connection L)) (most : ℕ) (largest : Option ℕ)
    → LargestSoFar connections ((key, one) ∷ left) most largest → one.memory ≤ most → LargestSoFar connections left most largest
largest_still connections key one left most largest so within = record {
  seen = seen_more connections key one left most most largest so (omega arith) within;
  left_is = λ other connection listed. so.left_is other connection (Contains-cons _ _ _ listed);
  takes = so.takes;
}

-- the sum of what connections take, after the change of one
memory_set : {L : Type 0} (slots : List (Option (Connection L))) (key : ℕ) (slot : Option (Connection L)) → key < length slots
    → memory_in (slice_set slots key slot) + memory_of (slice_index_or slots key None) ≡ memory_in slots + memory_of slot
memory_set [] key slot within = absurd (omega (arith, within))
memory_set (one ∷ slots) zero slot within = omega arith
memory_set (one ∷ slots) (suc key) slot within = let rest = memory_set slots key slot (omega (arith, within)) in omega (arith, rest)

taken_within : {L : Type 0} (slots : List (Option (Connection L))) (key : ℕ) → memory_of (slice_index_or slots key None) ≤ memory_in slots
taken_within [] key = omega arith
taken_within (one ∷ slots) zero = omega arith
taken_within (one ∷ slots) (suc key) = let rest = taken_within slots key in omega (arith, rest)

-- slots whose connections take the same
memory_alike : {L : Type 0} (xs ys : List (Option (Connection L))) → ((key : ℕ) → memory_of (slice_index_or ys key None) ≡ memory_of (slice_index_or xs key None)) → memory_in ys ≡ memory_in xs
memory_alike [] [] alike = refl
memory_alike [] (y ∷ ys) alike = let first = alike 0 in let rest = memory_alike [] ys (λ key. alike (suc key)) in omega (arith, first, rest)
memory_alike (x ∷ xs) [] alike = let first = alike 0 in let rest = memory_alike xs [] (λ key. alike (suc key)) in omega (arith, first, rest)
memory_alike (x ∷ xs) (y ∷ ys) alike = let first = alike 0 in let rest = memory_alike xs ys (λ key. alike (suc key)) in omega (arith, first, rest)

-- a connection that is there has a slot
within_slots : {L : Type 0} (s : Slab (Connection L)) (key : ℕ) (connection : Connection L) → Some connection ≡ get s key → key < length s.slots
within_slots {L} s key connection was =
    let some : IsSome (Some connection) = search rules in
    ContainsKey-within s key (subst (λ (o : Option (Connection L)). IsSome o) was some)

-- a connection that takes the same
pub counted_set : {L : Type 0} (s : Slab (Connection L)) (key : ℕ) (connection connection' : Connection L) (all : ℕ) → Some connection ≡ get s key → connection'.memory ≡ connection.memory
    → all ≡ memory_in s.slots → all ≡ memory_in (with_value s key connection').slots
counted_set {L} s key connection connection' all was same counted =
    let set = memory_set s.slots key (Some connection') (within_slots s key connection was) in
    let old = ap (λ (o : Option (Connection L)). memory_of o) was in
    omega (arith, set, old, same, counted)

-- a connection that is counted anew
pub counted_anew : {L : Type 0} (s : Slab (Connection L)) (key : ℕ) (connection connection' : Connection L) (all all' : ℕ) → Some connection ≡ get s key → all' ≡ (all - connection.memory) + connection'.memory
    → all ≡ memory_in s.slots → all' ≡ memory_in (with_value s key connection').slots
counted_anew {L} s key connection connection' all all' was anew counted =
    let set = memory_set s.slots key (Some connection') (within_slots s key connection was) in
    let old = ap (λ (o : Option (Connection L)). memory_of o) was in
    let within = taken_within s.slots key in
    omega (arith, set, old, anew, within, counted)

-- a connection that was closed
pub counted_closed : {L : Type 0} (s : Slab (Connection L)) (slots : List (Option (Connection L))) (key : ℕ) (connection : Connection L) (all all' : ℕ) → Some connection ≡ get s key → slots ≡ slice_set s.slots key None → all' ≡ all - connection.memory
    → all ≡ memory_in s.slots → all' ≡ memory_in slots
counted_closed {L} s slots key connection all all' was closes less counted =
    let set = memory_set s.slots key None (within_slots s key connection was) in
    let old = ap (λ (o : Option (Connection L)). memory_of o) was in
    let now = ap (λ (l : List (Option (Connection L))). memory_in l) closes in
    omega (arith, set, old, now, less, counted)

-- a connection that came, and takes nothing yet
counted_come : {L : Type 0} (s t : Slab (Connection L)) (key : ℕ) (connection : Connection L) (all : ℕ) → get s key ≡ None → Updates s t key (Some connection) → connection.memory ≡ 0
    → all ≡ memory_in s.slots → all ≡ memory_in t.slots
counted_come {L} s t key connection all none comes nothing counted = counted ∙ sym (memory_alike s.slots t.slots (λ other. elim (eqb_tells other key) [
  | inl is ↦
      ap (λ (k : ℕ). memory_of (get t k)) is.1 ∙ ap (λ (o : Option (Connection L)). memory_of o) comes.changed ∙ nothing
      ∙ sym (ap (λ (k : ℕ). memory_of (get s k)) is.1 ∙ ap (λ (o : Option (Connection L)). memory_of o) none)
  | inr apart ↦ ap (λ (o : Option (Connection L)). memory_of o) (comes.others other apart.1)
]))

-- room for one that came may be refused
pub counted_inserted : {L E : Type 0} (s t : Slab (Connection L)) (result : Result ℕ E) (connection : Connection L) (all : ℕ) → IfOk result (λ key. get s key ≡ None) → IfOk result (λ key. Updates s t key (Some connection))
    → OnErr result (t ≡ record s { capacity = t.capacity }) → connection.memory ≡ 0 → all ≡ memory_in s.slots → all ≡ memory_in t.slots
counted_inserted s t (Ok key) connection all none comes same nothing counted = counted_come s t key connection all none comes nothing counted
counted_inserted {L} s t (Err e) connection all none comes same nothing counted = counted ∙ ap (λ (u : Slab (Connection L)). memory_in u.slots) (sym same)

none_left : {L : Type 0} (e : ℕ × Connection L) → Contains [] e → ⊥
none_left e listed = absurd (omega (arith, listed.1))

within_most : {L : Type 0} (connections : Slab (Connection L)) (most : ℕ) (largest : Option ℕ) → LargestSoFar connections [] most largest
    → (key : ℕ) (connection : Connection L) → get connections key ≡ Some connection → connection.memory ≤ most
within_most connections most largest so key connection there = elim (so.seen key connection there) [
  | inl listed ↦ absurd (none_left (key, connection) listed)
  | inr within ↦ within
]

pub largest_last : {L : Type 0} (connections : Slab (Connection L)) (most : ℕ) (largest : Option ℕ) → LargestSoFar connections [] most largest → IsLargest connections largest
largest_last connections most None so = λ key connection there. let w = within_most connections most None so key connection there in let t = so.takes in omega (arith, w, t)
largest_last connections most (Some key) so =
    let t = so.takes in (
      t.0,
      t.1,
      λ other connection there. let w = within_most connections most (Some key) so other connection there in let e = t.2 in omega (arith, w, e),
    )

-- the part of a bound that each worker has
pub share_is : (all workers : ℕ) (part : Option ℕ) → SomeIff part (0 < workers) (all / workers) → unwrap_or part 0 ≡ share_of all workers
share_is all zero None none = refl
share_is all zero (Some n) some = absurd (omega (arith, some.0))
share_is all (suc others) None none = absurd (none (omega arith))
share_is all (suc others) (Some n) some = some.1
