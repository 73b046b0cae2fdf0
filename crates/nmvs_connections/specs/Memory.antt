-- The memory of the buffers of connections: of unsent replies, and of bytes that were read and not taken (own).
use Rattle.std.specs.Prelude.{◌≡◌, ◌≤◌, ◌+◌, ◌-◌, ◌^◌, ◌⊎◌, ◌&&◌, ◌||◌, not, ℕ, Bool, true, false, List, [], ◌∷◌, Option, Some, None, min, if◌then◌else◌}
use Rattle.std.specs.HashMap.{HashMap, get as count_at}
use Rattle.slab.specs.Slab.{Slab, get, entries}
use Rattle.nmvs_identifier.specs.Name.{Name}
use Rattle.nmvs_identifier.specs.Texts.{same_text}
use Rattle.nmvs_messages.specs.declared.peer.Peer.{Peer}
use Rattle.nmvs_messages.specs.declared.peer.Peer.TheVariants as peers
use Rattle.nmvs_connections.specs.declared.connection.Connection.{Connection}
use Rattle.nmvs_connections.specs.declared.event_loop.EventLoop.{EventLoop}

-- the memory of a connection at its last count; 0 if there is no connection
abbrev pub memory_of : {L : Type 0} → Option (Connection L) → ℕ
memory_of None = 0
memory_of (Some connection) = connection.memory

-- the memory of all connections at their last counts
abbrev pub memory_in : {L : Type 0} → List (Option (Connection L)) → ℕ
memory_in [] = 0
memory_in (slot ∷ more) = memory_of slot + memory_in more

-- the memory that a worker counts is the sum of that of its connections
abbrev pub IsCounted : {L : Type 0} → EventLoop L → Type 0
IsCounted worker = worker.memory ≡ memory_in worker.connections.slots

-- the memory of one connection is counted whole, in addition to that of the others; or no more can be counted
abbrev pub CountsMemory : (kept others memory all : ℕ) → Type 0
CountsMemory kept others memory all = (all ≡ others + memory) × ((kept ≤ memory) ⊎ (all ≡ 2 ^ 64 - 1))

-- no connection takes more than this
abbrev pub NoneTakesMore : {L : Type 0} → Slab (Connection L) → ℕ → Type 0
NoneTakesMore {L} connections most = (key : ℕ) (connection : Connection L) → get connections key ≡ Some connection → connection.memory ≤ most

-- the connection under this key takes most memory; if there is no key, none takes any
abbrev pub IsLargest : {L : Type 0} → Slab (Connection L) → Option ℕ → Type 0
IsLargest connections None = NoneTakesMore connections 0
IsLargest {L} connections (Some key) = (connection : Connection L) × (get connections key ≡ Some connection) × NoneTakesMore connections connection.memory

-- all take no more than this, or no connection that is left takes any
abbrev pub TakeAtMost : {L : Type 0} → ℕ → Slab (Connection L) → ℕ → Type 0
TakeAtMost most connections all = (all ≤ most) ⊎ NoneTakesMore connections 0

-- the name of a peer's certificate
abbrev pub name_of : Option Peer → Option Name
name_of (Some (peers.User name)) = Some name
name_of (Some (peers.Authorisation name)) = Some name
name_of _ = None

abbrev pub name_or : Option Name → Name → Name
name_or None origin = origin
name_or (Some name) origin = name

-- the name under which the memory of a connection is counted: that of the peer's certificate, or else that of its
-- address
abbrev pub account_of : {L : Type 0} → Connection L → Name
account_of connection = name_or (name_of connection.session.peer) connection.origin

-- the bytes that are counted under a name
abbrev pub value_of : Option ℕ → ℕ
value_of None = 0
value_of (Some count) = count

abbrev pub count_in : {S : Type 0} → HashMap Name ℕ S → Name → ℕ
count_in counts name = value_of (count_at same_text counts name)

-- the memory that these connections keep under a name
abbrev pub kept_by : {L : Type 0} → Name → List (ℕ × Connection L) → ℕ
kept_by name [] = 0
kept_by name (e ∷ es) = (if same_text (account_of e.1) name then e.1.memory else 0) + kept_by name es

-- no peer keeps more than the one of this name; counts end at 2^64 - 1
abbrev pub KeepsMost : {L : Type 0} → Slab (Connection L) → Name → Type 0
KeepsMost connections name = (other : Name) → min (kept_by other (entries connections)) (2 ^ 64 - 1) ≤ kept_by name (entries connections)

-- the peer of this name keeps most; if there is no name, no connection takes any memory
abbrev pub IsHeaviest : {L : Type 0} → Slab (Connection L) → Option Name → Type 0
IsHeaviest connections None = NoneTakesMore connections 0
IsHeaviest connections (Some name) = KeepsMost connections name

-- whether a connection is one of the peer of this name. If `unfinished`, a line or a request of it has not come whole.
abbrev pub is_counted : {L : Type 0} → Name → Bool → Connection L → Bool
is_counted name unfinished connection = (connection.unfinished || not unfinished) && same_text (account_of connection) name

-- none of these takes more than this
abbrev pub NoneOfThemTakesMore : {L : Type 0} → Slab (Connection L) → Name → Bool → ℕ → Type 0
NoneOfThemTakesMore {L} connections name unfinished most =
    (key : ℕ) (connection : Connection L) → get connections key ≡ Some connection → is_counted name unfinished connection ≡ true → connection.memory ≤ most

-- the connection under this key takes most of these; if there is no key, none of them takes any
abbrev pub IsLargestOf : {L : Type 0} → Slab (Connection L) → Name → Bool → Option ℕ → Type 0
IsLargestOf connections name unfinished None = NoneOfThemTakesMore connections name unfinished 0
IsLargestOf {L} connections name unfinished (Some key) =
    (connection : Connection L) × (get connections key ≡ Some connection) × (is_counted name unfinished connection ≡ true)
    × NoneOfThemTakesMore connections name unfinished connection.memory

-- the connection that is closed first for want of memory is one of the peer that keeps most. It is the largest of those
-- on which a line or a request has not come whole. If none of these takes any memory, it is the largest of all of that
-- peer's. If there is no key, no connection takes any memory.
abbrev pub IsEvictedFirst : {L : Type 0} → Slab (Connection L) → Option ℕ → Type 0
IsEvictedFirst connections None = NoneTakesMore connections 0
IsEvictedFirst connections (Some key) =
    (name : Name) × KeepsMost connections name
    × (IsLargestOf connections name true (Some key) ⊎ (IsLargestOf connections name true None × IsLargestOf connections name false (Some key)))
