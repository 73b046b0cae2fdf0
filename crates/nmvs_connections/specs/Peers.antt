-- A connection with its peer: whose lines it carries, and which bytes are its header, its lines and its replies (own).
use Rattle.std.specs.Prelude.{◌≡◌, ◌≢◌, ◌+◌, ℕ, List, [], ◌++◌, length, Option, Some, None, codes}
use Rattle.nmvs_messages.specs.declared.peer.NameOf.{NameOf}
use Rattle.nmvs_messages.specs.declared.peer.Peer.{Peer}
use Rattle.nmvs_messages.specs.declared.peer.Peer.TheVariants as peers
use Rattle.nmvs_connections.specs.declared.peer_session.Stage.{Stage}
use Rattle.nmvs_connections.specs.declared.peer_session.Stage.TheVariants as stages
use Rattle.nmvs_connections.specs.declared.proxy_header.ProxyHeader.TheVariants as proxy_headers
use Rattle.nmvs_connections.specs.ProxyHeader.{ReadsProxyHeader}
use Rattle.nmvs_connections.specs.Replies.{SessionState}
use Rattle.nmvs_connections.specs.Traffic.{Traffic}

-- a connection: its peer, once it is known, its stage, its bytes, and its session. `proxy` is whether a gateway's
-- header names a user or an authorisation, if it begins with one. `unread` are the bytes that were read and not taken,
-- and `pending` over HTTP those of a request that has not come whole.
pub record PeerState : Type 0 where
  pub proxy : Option NameOf
  pub peer : Option Peer
  pub stage : Stage
  pub stream : Traffic
  pub session : SessionState
  pub unread : List ℕ
  pub pending : List ℕ

-- the number of bytes that a connection keeps: the untaken bytes, those of a request that has not come whole, and the
-- unsent replies
abbrev pub kept_bytes : PeerState → ℕ
kept_bytes c = length c.unread + (length c.pending + length c.session.unsent)

-- these bytes are the header that names the peer; if none is expected, the peer is anyone. Before the peer is known, there
-- is no header, and the session was fed nothing
abbrev pub NamesPeer : Option NameOf → Option Peer → List ℕ → List ℕ → Type 0
NamesPeer proxy None header fed = (header ≡ []) × (fed ≡ [])
NamesPeer None (Some peer) header fed = (header ≡ []) × (peer ≡ peers.Anyone)
NamesPeer (Some name_of) (Some peer) header fed = ReadsProxyHeader header name_of (proxy_headers.Whole peer)

-- these are the first bytes of the notice that ends a connection which asked nothing for too long
abbrev pub IsNotice : List ℕ → Type 0
IsNotice notice = (rest : List ℕ) × (notice ++ rest ≡ codes "FAULT IDLE\n")

-- nothing is sent but replies, until the end
abbrev pub EndsWith : Stage → List ℕ → Type 0
EndsWith stages.Serving notice = notice ≡ []
EndsWith stages.Ending notice = notice ≡ []
EndsWith stages.Lingering notice = IsNotice notice

-- the bytes that a connection received are those of its header, those that its session was fed, and the rest. The bytes
-- that it was sent are the replies of its session, and at most a notice after them. While its lines are answered, the
-- rest is unread.
pub record Holds (proxy : Option NameOf) (peer : Option Peer) (stage : Stage) (received sent fed replies unread : List ℕ) : Type 0 where
  pub header : List ℕ
  pub rest : List ℕ
  pub received_is : received ≡ header ++ (fed ++ rest)
  pub named : NamesPeer proxy peer header fed
  pub left : stage ≡ stages.Serving → rest ≡ unread
  pub notice : List ℕ
  pub sent_is : sent ≡ replies ++ notice
  pub ended : EndsWith stage notice

-- a connection whose bytes are so
abbrev pub IsConnection : PeerState → Type 0
IsConnection c = (unread : List ℕ) × Holds c.proxy c.peer c.stage c.stream.received c.stream.sent c.session.fed c.session.sent unread

-- a peer that was known stays
abbrev pub StaysPeer : Option Peer → Option Peer → Type 0
StaysPeer old new = (peer : Peer) → old ≡ Some peer → new ≡ Some peer

-- with a gateway no peer is `Anyone`
abbrev pub IsNamed : Option NameOf → Option Peer → Type 0
IsNamed None peer = Unit {0}
IsNamed (Some name_of) peer = peer ≢ Some peers.Anyone

-- the peer and the gateway are the same, and no byte more was received
abbrev pub Rests : PeerState → PeerState → Type 0
Rests old new = (new.proxy ≡ old.proxy) × (new.peer ≡ old.peer) × (new.stream.received ≡ old.stream.received)

-- a connection later: the gateway is the same, its peer stays once it is known, and more bytes follow those that it
-- received
pub record IsLater (old new : PeerState) : Type 0 where
  pub proxy : new.proxy ≡ old.proxy
  pub peer : StaysPeer old.peer new.peer
  pub more : List ℕ
  pub received : new.stream.received ≡ old.stream.received ++ more
