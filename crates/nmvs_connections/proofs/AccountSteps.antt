-- The peer that keeps most, and the largest of its connections, found by going over all connections.
use Rattle.std.proofs.Common.{◌≡◌, ◌≤◌, ◌<◌, ◌+◌, ◌-◌, ◌^◌, ◌⊎◌, ◌&&◌, ◌||◌, not, ◌∙◌, inl, inr, ℕ, Bool, true, false, List, [], ◌∷◌, Option, Some, None, refl, sym, ap, subst, cond, min, arith}
use Rattle.std.specs.HashMap.{HashMap}
use Rattle.std.specs.List.{Contains}
use Rattle.std.proofs.lemmas.Slice.Eq.{bytes_eq-Decides}
use Rattle.slab.specs.Slab.{Slab, get, entries}
use Rattle.slab.proofs.SlabLemmas.{Contains-cons, Contains-cons_cases, Contains-entries}
use Rattle.nmvs_identifier.specs.Name.{Name}
use Rattle.nmvs_identifier.specs.Texts.{same_text}
use Rattle.nmvs_connections.specs.declared.connection.Connection.{Connection}
use Rattle.nmvs_connections.specs.Memory.{IsEvictedFirst, IsHeaviest, IsLargestOf, KeepsMost, NoneTakesMore, NoneOfThemTakesMore, account_of, count_in, is_counted, kept_by}

same_bytes : (s t : Name) → same_text s t ≡ true → s.bytes ≡ t.bytes
same_bytes s t same = (bytes_eq-Decides s.bytes t.bytes).0 same

same_name : (s t : Name) → same_text s t ≡ true → s ≡ t
same_name s t same = λ i. record { bytes = same_bytes s t same i }

same_itself : (s : Name) → same_text s s ≡ true
same_itself s = (bytes_eq-Decides s.bytes s.bytes).1 refl

-- most is counted under this name; if there is none, nothing is
abbrev pub Tops : {S : Type 0} → HashMap Name ℕ S → ℕ → Option Name → Type 0
Tops counts most None = most ≡ 0
Tops counts most (Some name) = count_in counts name ≡ most

-- what was kept under a name by the connections that were counted
pub record Counted {L S : Type 0} (connections : Slab (Connection L)) (counts : HashMap Name ℕ S) (left : List (ℕ × Connection L)) (name : Name) : Type 0 where
  pub kept : ℕ
  pub count : count_in counts name ≡ min kept (2 ^ 64 - 1)
  pub all : kept_by name (entries connections) ≡ kept + kept_by name left

pub record CountedSoFar {L S : Type 0} (connections : Slab (Connection L)) (counts : HashMap Name ℕ S) (left : List (ℕ × Connection L)) (most : ℕ) (heaviest : Option Name) : Type 0 where
  pub each : (name : Name) → Counted connections counts left name
  pub within : (name : Name) → count_in counts name ≤ most
  pub tops : Tops counts most heaviest

pub counted_first : {L S : Type 0} (connections : Slab (Connection L)) (counts : HashMap Name ℕ S) → ((name : Name) → count_in counts name ≡ 0)
    → CountedSoFar connections counts (entries connections) 0 None
counted_first connections counts none = record {
  each = λ name. record { kept = 0; count = none name; all = omega arith };
  within = λ name. let z = none name in omega (arith, z);
  tops = refl;
}

-- one more was counted
abbrev pub Counts : {S : Type 0} → HashMap Name ℕ S → HashMap Name ℕ S → Name → ℕ → ℕ → Type 0
Counts old new name memory count =
    (count ≡ min (count_in old name + memory) (2 ^ 64 - 1)) × (count_in new name ≡ count)
    × ((other : Name) → same_text name other ≡ false → count_in new other ≡ count_in old other)

counted_by : {L S : Type 0} (connections : Slab (Connection L)) (old new : HashMap Name ℕ S) (key : ℕ) (one : Connection L) (left : List (ℕ × Connection L)) (count : ℕ) (name : Name)
    → Counts old new (account_of one) one.memory count → (same : Bool) → same_text (account_of one) name ≡ same
    → Counted connections old ((key, one) ∷ left) name → Counted connections new left name
counted_by connections old new key one left count name counts true is so =
    let here = same_name (account_of one) name is in
    let grown = subst (λ (n : Name). count_in new n ≡ count) here counts.1 in
    let before = subst (λ (n : Name). count ≡ min (count_in old n + one.memory) (2 ^ 64 - 1)) here counts.0 in
    let was = so.count in
    let own : kept_by name ((key, one) ∷ left) ≡ one.memory + kept_by name left = ap (λ (b : Bool). cond b one.memory 0 + kept_by name left) is in
    let all = so.all in
    record { kept = so.kept + one.memory; count = omega (arith, grown, before, was); all = omega (arith, all, own) }
counted_by connections old new key one left count name counts false is so =
    let still = counts.2 name is in
    let was = so.count in
    let own : kept_by name ((key, one) ∷ left) ≡ 0 + kept_by name left = ap (λ (b : Bool). cond b one.memory 0 + kept_by name left) is in
    let all = so.all in
    record { kept = so.kept; count = omega (arith, still, was); all = omega (arith, all, own) }

-- under no name less is counted
not_less : {S : Type 0} (old new : HashMap Name ℕ S) (name other : Name) (memory count most : ℕ) → Counts old new name memory count → count_in old other ≤ most
    → (same : Bool) → same_text name other ≡ same → (count_in new other ≡ count) ⊎ (count_in new other ≤ most)
not_less old new name other memory count most counts within true is = inl (subst (λ (n : Name). count_in new n ≡ count) (same_name name other is) counts.1)
not_less old new name other memory count most counts within false is = inr (let e = counts.2 other is in omega (arith, e, within))

pub counted_new : {L S : Type 0} (connections : Slab (Connection L)) (old new : HashMap Name ℕ S) (key : ℕ) (one : Connection L) (left : List (ℕ × Connection L)) (most count : ℕ) (heaviest : Option Name)
    → Counts old new (account_of one) one.memory count → most < count → CountedSoFar connections old ((key, one) ∷ left) most heaviest
    → CountedSoFar connections new left count (Some (account_of one))
counted_new connections old new key one left most count heaviest counts more so = record {
  each = λ name. counted_by connections old new key one left count name counts (same_text (account_of one) name) refl (so.each name);
  within = λ name. elim (not_less old new (account_of one) name one.memory count most counts (so.within name) (same_text (account_of one) name) refl) [
    | inl is ↦ omega (arith, is)
    | inr less ↦ omega (arith, less, more)
  ];
  tops = counts.1;
}

tops_by : {S : Type 0} (old new : HashMap Name ℕ S) (name top : Name) (memory count most kept : ℕ) → Counts old new name memory count
    → count ≤ most → count_in old top ≡ min kept (2 ^ 64 - 1) → count_in old top ≡ most → (same : Bool) → same_text name top ≡ same → count_in new top ≡ most
tops_by old new name top memory count most kept counts within was tops true is =
    let here = same_name name top is in
    let grown = subst (λ (n : Name). count_in new n ≡ count) here counts.1 in
    let before = subst (λ (n : Name). count ≡ min (count_in old n + memory) (2 ^ 64 - 1)) here counts.0 in
    omega (arith, grown, before, was, tops, within)
tops_by old new name top memory count most kept counts within was tops false is = counts.2 top is ∙ tops

tops_still : {L S : Type 0} (connections : Slab (Connection L)) (old new : HashMap Name ℕ S) (left : List (ℕ × Connection L)) (name : Name) (memory count most : ℕ) (heaviest : Option Name)
    → Counts old new name memory count → count ≤ most → ((other : Name) → Counted connections old left other) → Tops old most heaviest → Tops new most heaviest
tops_still connections old new left name memory count most None counts within each tops = tops
tops_still connections old new left name memory count most (Some top) counts within each tops =
    tops_by old new name top memory count most (each top).kept counts within (each top).count tops (same_text name top) refl

pub counted_still : {L S : Type 0} (connections : Slab (Connection L)) (old new : HashMap Name ℕ S) (key : ℕ) (one : Connection L) (left : List (ℕ × Connection L)) (most count : ℕ) (heaviest : Option Name)
    → Counts old new (account_of one) one.memory count → count ≤ most → CountedSoFar connections old ((key, one) ∷ left) most heaviest
    → CountedSoFar connections new left most heaviest
counted_still connections old new key one left most count heaviest counts within so = record {
  each = λ name. counted_by connections old new key one left count name counts (same_text (account_of one) name) refl (so.each name);
  within = λ name. elim (not_less old new (account_of one) name one.memory count most counts (so.within name) (same_text (account_of one) name) refl) [
    | inl is ↦ omega (arith, is, within)
    | inr less ↦ less
  ];
  tops = tops_still connections old new ((key, one) ∷ left) (account_of one) one.memory count most heaviest counts within so.each so.tops;
}

abbrev Others : {S : Type 0} → HashMap Name ℕ S → HashMap Name ℕ S → Name → Type 0
Others old new name = (other : Name) → same_text name other ≡ false → count_in new other ≡ count_in old other

pub counted_new_by : {L S : Type 0} (connections : Slab (Connection L)) (old new : HashMap Name ℕ S) (key : ℕ) (one : Connection L) (left : List (ℕ × Connection L)) (most count : ℕ) (heaviest : Option Name) (name : Name)
    → name ≡ account_of one → count ≡ min (count_in old name + one.memory) (2 ^ 64 - 1) → count_in new name ≡ count → Others old new name
    → most < count → CountedSoFar connections old ((key, one) ∷ left) most heaviest → CountedSoFar connections new left count (Some name)
counted_new_by {L} {S} connections old new key one left most count heaviest name same grown own others more so =
    subst (λ (n : Name). CountedSoFar connections new left count (Some n)) (sym same)
    (counted_new connections old new key one left most count heaviest (subst (λ (n : Name). Counts old new n one.memory count) same (grown, own, others)) more so)

pub counted_still_by : {L S : Type 0} (connections : Slab (Connection L)) (old new : HashMap Name ℕ S) (key : ℕ) (one : Connection L) (left : List (ℕ × Connection L)) (most count : ℕ) (heaviest : Option Name) (name : Name)
    → name ≡ account_of one → count ≡ min (count_in old name + one.memory) (2 ^ 64 - 1) → count_in new name ≡ count → Others old new name
    → count ≤ most → CountedSoFar connections old ((key, one) ∷ left) most heaviest → CountedSoFar connections new left most heaviest
counted_still_by {L} {S} connections old new key one left most count heaviest name same grown own others within so =
    counted_still connections old new key one left most count heaviest (subst (λ (n : Name). Counts old new n one.memory count) same (grown, own, others)) within so

-- what one connection takes is kept under its name
first_is_kept : {L : Type 0} (key : ℕ) (one : Connection L) (es : List (ℕ × Connection L)) → one.memory ≤ kept_by (account_of one) ((key, one) ∷ es)
first_is_kept key one es =
    let own : kept_by (account_of one) ((key, one) ∷ es) ≡ one.memory + kept_by (account_of one) es = ap (λ (b : Bool). cond b one.memory 0 + kept_by (account_of one) es) (same_itself (account_of one)) in
    subst (λ (n : ℕ). one.memory ≤ n) (sym own) (omega arith)

more_kept : {L : Type 0} (name : Name) (e : ℕ × Connection L) (es : List (ℕ × Connection L)) (memory : ℕ) → memory ≤ kept_by name es → memory ≤ kept_by name (e ∷ es)
more_kept name e es memory within = omega (arith, within)

own_is_kept : {L : Type 0} (key : ℕ) (one : Connection L) (es : List (ℕ × Connection L)) → Contains es (key, one) → one.memory ≤ kept_by (account_of one) es
own_is_kept key one [] listed = absurd (omega (arith, listed.1))
own_is_kept {L} key one (e ∷ es) listed = elim (Contains-cons_cases _ _ _ listed) [
  | inl same ↦ subst (λ (f : ℕ × Connection L). one.memory ≤ kept_by (account_of one) (f ∷ es)) (sym same) (first_is_kept key one es)
  | inr rest ↦ more_kept (account_of one) e es one.memory (own_is_kept key one es rest)
]

nothing : (b : Bool) (memory : ℕ) → (b ≡ true → memory ≤ 0) → cond b memory 0 ≡ 0
nothing true memory none = let z = none refl in omega (arith, z)
nothing false memory none = refl

-- if none of the connections under a name takes memory, nothing is kept there
none_kept : {L : Type 0} (name : Name) (es : List (ℕ × Connection L)) → ((key : ℕ) (one : Connection L) → Contains es (key, one) → same_text (account_of one) name ≡ true → one.memory ≤ 0)
    → kept_by name es ≡ 0
none_kept name [] none = refl
none_kept {L} name (e ∷ es) none =
    let rest = none_kept name es (λ key one listed. none key one (Contains-cons _ _ _ listed)) in
    let first = nothing (same_text (account_of e.1) name) e.1.memory (λ is. none e.0 e.1 (0, omega arith, refl) is) in
    omega (arith, rest, first)

-- the connections under the name that is found keep most
pub heaviest_last : {L S : Type 0} (connections : Slab (Connection L)) (counts : HashMap Name ℕ S) (most : ℕ) (heaviest : Option Name)
    → CountedSoFar connections counts [] most heaviest → IsHeaviest connections heaviest
heaviest_last connections counts most None so = λ key connection there.
    let listed = (Contains-entries connections key connection).1 there in
    let own = own_is_kept key connection (entries connections) listed in
    let c = so.each (account_of connection) in
    let count = c.count in
    let all = c.all in
    let within = so.within (account_of connection) in
    let tops = so.tops in
    omega (arith, own, count, all, within, tops)
heaviest_last connections counts most (Some name) so = λ other.
    let c = so.each other in
    let d = so.each name in
    let count = c.count in
    let all = c.all in
    let count' = d.count in
    let all' = d.all in
    let within = so.within other in
    let tops = so.tops in
    omega (arith, count, all, count', all', within, tops)

-- the connection under this key is counted, and takes this much memory; if there is no key, it is 0
abbrev pub TakesOf : {L : Type 0} → Slab (Connection L) → Name → Bool → ℕ → Option ℕ → Type 0
TakesOf connections name unfinished most None = most ≡ 0
TakesOf {L} connections name unfinished most (Some key) =
    (connection : Connection L) × (get connections key ≡ Some connection) × (is_counted name unfinished connection ≡ true) × (connection.memory ≡ most)

-- the largest of the connections that were compared
pub record LargestOfSoFar {L : Type 0} (connections : Slab (Connection L)) (name : Name) (unfinished : Bool) (left : List (ℕ × Connection L)) (most : ℕ) (largest : Option ℕ) : Type 0 where
  pub seen : (key : ℕ) (connection : Connection L) → get connections key ≡ Some connection → is_counted name unfinished connection ≡ true → Contains left (key, connection) ⊎ (connection.memory ≤ most)
  pub left_is : (key : ℕ) (connection : Connection L) → Contains left (key, connection) → get connections key ≡ Some connection
  pub takes : TakesOf connections name unfinished most largest

pub largest_of_first : {L : Type 0} (connections : Slab (Connection L)) (name : Name) (unfinished : Bool) → LargestOfSoFar connections name unfinished (entries connections) 0 None
largest_of_first connections name unfinished = record {
  seen = λ key connection there counted. inl ((Contains-entries connections key connection).1 there);
  left_is = λ key connection listed. (Contains-entries connections key connection).0 listed;
  takes = refl;
}

-- one more connection was compared: it takes no more, or is not counted
seen_one : {L : Type 0} (connections : Slab (Connection L)) (name : Name) (unfinished : Bool) (key : ℕ) (one : Connection L) (left : List (ℕ × Connection L)) (most most' : ℕ) (largest : Option ℕ)
    → LargestOfSoFar connections name unfinished ((key, one) ∷ left) most largest → most ≤ most' → (is_counted name unfinished one ≡ true → one.memory ≤ most')
    → (other : ℕ) (connection : Connection L) → get connections other ≡ Some connection → is_counted name unfinished connection ≡ true → Contains left (other, connection) ⊎ (connection.memory ≤ most')
seen_one {L} connections name unfinished key one left most most' largest so more within other connection there counted = elim (so.seen other connection there counted) [
  | inl listed ↦ elim (Contains-cons_cases _ _ _ listed) [
    | inl same ↦ inr (subst (λ (e : ℕ × Connection L). is_counted name unfinished e.1 ≡ true → e.1.memory ≤ most') same within counted)
    | inr rest ↦ inl rest
  ]
  | inr past ↦ inr (omega (arith, past, more))
]

pub largest_of_new : {L : Type 0} (connections : Slab (Connection L)) (name : Name) (unfinished : Bool) (key : ℕ) (one : Connection L) (left : List (ℕ × Connection L)) (most : ℕ) (largest : Option ℕ)
    → LargestOfSoFar connections name unfinished ((key, one) ∷ left) most largest → most < one.memory → is_counted name unfinished one ≡ true
    → LargestOfSoFar connections name unfinished left one.memory (Some key)
largest_of_new connections name unfinished key one left most largest so larger counted = record {
  seen = seen_one connections name unfinished key one left most one.memory largest so (omega (arith, larger)) (λ _. omega arith);
  left_is = λ other connection listed. so.left_is other connection (Contains-cons _ _ _ listed);
  takes = (one, so.left_is key one (0, omega arith, refl), counted, refl);
}

pub largest_of_still : {L : Type 0} (connections : Slab (Connection L)) (name : Name) (unfinished : Bool) (key : ℕ) (one : Connection L) (left : List (ℕ × Connection L)) (most : ℕ) (largest : Option ℕ)
    → LargestOfSoFar connections name unfinished ((key, one) ∷ left) most largest → (is_counted name unfinished one ≡ true → one.memory ≤ most)
    → LargestOfSoFar connections name unfinished left most largest
largest_of_still connections name unfinished key one left most largest so within = record {
  seen = seen_one connections name unfinished key one left most most largest so (omega arith) within;
  left_is = λ other connection listed. so.left_is other connection (Contains-cons _ _ _ listed);
  takes = so.takes;
}

none_listed : {L : Type 0} (e : ℕ × Connection L) → Contains [] e → ⊥
none_listed e listed = absurd (omega (arith, listed.1))

all_within : {L : Type 0} (connections : Slab (Connection L)) (name : Name) (unfinished : Bool) (most : ℕ) (largest : Option ℕ) → LargestOfSoFar connections name unfinished [] most largest
    → NoneOfThemTakesMore connections name unfinished most
all_within connections name unfinished most largest so key connection there counted = elim (so.seen key connection there counted) [
  | inl listed ↦ absurd (none_listed (key, connection) listed)
  | inr within ↦ within
]

pub largest_of_last : {L : Type 0} (connections : Slab (Connection L)) (name : Name) (unfinished : Bool) (most : ℕ) (largest : Option ℕ) → LargestOfSoFar connections name unfinished [] most largest
    → IsLargestOf connections name unfinished largest
largest_of_last connections name unfinished most None so = λ key connection there counted. let w = all_within connections name unfinished most None so key connection there counted in let t = so.takes in omega (arith, w, t)
largest_of_last connections name unfinished most (Some key) so =
    let t = so.takes in (
      t.0,
      t.1,
      t.2,
      λ other connection there counted. let w = all_within connections name unfinished most (Some key) so other connection there counted in let e = t.3 in omega (arith, w, e),
    )

whatever : (unfinished same : Bool) → same ≡ true → ((unfinished || not false) && same) ≡ true
whatever true same is = is
whatever false same is = is

counted_all : {L : Type 0} (name : Name) (one : Connection L) → same_text (account_of one) name ≡ true → is_counted name false one ≡ true
counted_all name one same = whatever one.unfinished (same_text (account_of one) name) same

-- if none under the name that keeps most takes memory, none takes any
pub none_takes : {L : Type 0} (connections : Slab (Connection L)) (name : Name) → KeepsMost connections name → IsLargestOf connections name false None → NoneTakesMore connections 0
none_takes connections name most none key connection there =
    let listed = (Contains-entries connections key connection).1 there in
    let own = own_is_kept key connection (entries connections) listed in
    let all = none_kept name (entries connections) (λ other one listed' same. none other one ((Contains-entries connections other one).0 listed') (counted_all name one same)) in
    let most' = most (account_of connection) in
    omega (arith, own, all, most')

-- the connection to be closed first, if none that has not come whole takes memory
pub evicted_first : {L : Type 0} (connections : Slab (Connection L)) (name : Name) (key : Option ℕ) → KeepsMost connections name → IsLargestOf connections name true None
    → IsLargestOf connections name false key → IsEvictedFirst connections key
evicted_first connections name None most whole none = none_takes connections name most none
evicted_first connections name (Some key) most whole largest = (name, most, inr (whole, largest))
