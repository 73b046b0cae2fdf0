-- The peer that the first bytes of a connection name (own).
use Rattle.std.specs.Prelude.{◌≡◌, ◌≢◌, ◌⊎◌, ℕ, List, length}
use Rattle.nmvs_identifier.specs.Name.{Name}
use Rattle.nmvs_gateway.specs.Header.{ReadsHeader}
use Rattle.nmvs_gateway.specs.declared.header.Header.TheVariants as headers
use Rattle.nmvs_messages.specs.declared.peer.NameOf.{NameOf}
use Rattle.nmvs_messages.specs.Peers.{peer_named}
use Rattle.nmvs_connections.specs.declared.proxy_header.ProxyHeader.{ProxyHeader}
use Rattle.nmvs_connections.specs.declared.proxy_header.ProxyHeader.TheVariants as proxy_headers

-- the bytes begin with no header that has the name of a verified certificate; or more was read than a header
abbrev pub IsNoProxyHeader : List ℕ → Type 0
IsNoProxyHeader bytes =
    ReadsHeader bytes headers.Broken ⊎ ((name : Name) × (size : ℕ) × ReadsHeader bytes (headers.Whole name size) × (size ≢ length bytes))

-- the bytes that were read of a connection, as a header; a header without a byte after it names the peer, by its certificate
abbrev pub ReadsProxyHeader : List ℕ → NameOf → ProxyHeader → Type 0
ReadsProxyHeader bytes name_of (proxy_headers.Begun missing) = ReadsHeader bytes (headers.Begun missing)
ReadsProxyHeader bytes name_of (proxy_headers.Whole peer) = (name : Name) × ReadsHeader bytes (headers.Whole name (length bytes)) × (peer ≡ peer_named name_of name)
ReadsProxyHeader bytes name_of proxy_headers.Broken = IsNoProxyHeader bytes
