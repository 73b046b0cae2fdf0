-- The peer at the other end of a connection (own).
use Rattle.std.specs.Prelude.{Bool, true}
use Rattle.nmvs_identifier.specs.Name.{Name}
use Rattle.nmvs_identifier.specs.Texts.{same_text}
use Rattle.nmvs_messages.specs.declared.ask.Ask.{Ask}
use Rattle.nmvs_messages.specs.declared.withheld.Withheld.{Withheld}
use Rattle.nmvs_messages.specs.declared.peer.Peer.{Peer}
use Rattle.nmvs_messages.specs.declared.peer.Peer.TheVariants as peers
use Rattle.nmvs_messages.specs.declared.peer.NameOf.{NameOf}
use Rattle.nmvs_messages.specs.declared.peer.NameOf.TheVariants as names

-- the peer of a connection whose certificate has this name
abbrev pub peer_named : NameOf → Name → Peer
peer_named names.User name = peers.User name
peer_named names.Authorisation name = peers.Authorisation name

-- whether the lines of a peer may name a user who has this authorisation; those of an unknown peer may name anyone
abbrev pub speaks_for : Peer → Name → Name → Bool
speaks_for peers.Anyone user authorisation = true
speaks_for (peers.User own) user authorisation = same_text user own
speaks_for (peers.Authorisation own) user authorisation = same_text authorisation own

-- a desk takes what this peer asks
abbrev pub TakesFrom : {D : Type 0} → (D → Peer → Ask → Withheld → D → Type 0) → Peer → D → Ask → Withheld → D → Type 0
TakesFrom takes peer old ask withheld new = takes old peer ask withheld new
