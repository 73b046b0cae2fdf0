-- Addresses with a port, as options spell them (own).
use Rattle.std.specs.Prelude.{◌≡◌, ◌⊎◌, ◌^◌, ◌<◌, ℕ, List, [], ◌∷◌}
use Rattle.std.specs.Net.Addr.{ipv4_octets}
use Rattle.std.specs.Net.Grammar.{IsSocketText}
use Rattle.std.specs.Net.Socket.{socket_ip, socket_port}
use Rattle.std.specs.Str.Parse.{IsNumeral, digits_value, without_leading_plus}
use Rattle.std.specs.declared.net.ip_addr.IpAddr.TheVariants.{V4}
use Rattle.std.specs.declared.net.ipv4_addr.Ipv4Addr.{Ipv4Addr}
use Rattle.std.specs.declared.net.socket_addr.SocketAddr.{SocketAddr}

-- this port of 127.0.0.1
pub record IsOwn (port : ℕ) (address : SocketAddr) : Type 0 where
  pub ip : Ipv4Addr
  pub version : socket_ip address ≡ V4 ip
  pub octets : ipv4_octets ip ≡ 127 ∷ 0 ∷ 0 ∷ 1 ∷ []
  pub same : socket_port address ≡ port

-- a port alone: the digits of a number of 16 bits, before which a plus may stand
abbrev pub IsPort : List ℕ → ℕ → Type 0
IsPort digits port = IsNumeral 10 digits × (port < 2 ^ 16) × (port ≡ digits_value 10 digits)

-- the text is a port alone, and the address this port of 127.0.0.1
pub record SpellsPort (text : List ℕ) (address : SocketAddr) : Type 0 where
  pub port : ℕ
  pub digits : IsPort (without_leading_plus text) port
  pub own : IsOwn port address

-- the text spells the address: by a port alone, or in the grammar of addresses with a port
abbrev pub Spells : List ℕ → SocketAddr → Type 0
Spells text address = SpellsPort text address ⊎ IsSocketText text address
