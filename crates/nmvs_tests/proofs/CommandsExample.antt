-- Commands, and for whom a peer speaks.
use Rattle.std.proofs.Common.{◌≡◌, ℕ, Bool, true, false, List, [], ◌∷◌, Option, Some, None, refl}
use Rattle.std.specs.Prelude.{codes, replicate}
use Rattle.nmvs_identifier.specs.Codes.{Codes}
use Rattle.nmvs_identifier.specs.Expiry.{Expiry}
use Rattle.nmvs_identifier.specs.Texts.{Text}
use Rattle.nmvs_rules.specs.declared.role.Role.TheVariants as role
use Rattle.nmvs_messages.specs.declared.command.Command.{Command}
use Rattle.nmvs_messages.specs.declared.command.Command.TheVariants.{Enrol, Suspend, Remove}
use Rattle.nmvs_messages.specs.declared.command.CommandFault.TheVariants as fault
use Rattle.nmvs_messages.specs.declared.peer.Peer.{Peer}
use Rattle.nmvs_messages.specs.declared.peer.Peer.TheVariants as peer
use Rattle.nmvs_messages.specs.declared.peer.NameOf.TheVariants as name_of
use Rattle.nmvs_messages.specs.Commands.{command_line, first_command_fault, is_command, is_role}
use Rattle.nmvs_messages.specs.Peers.{peer_named, speaks_for}
use Rattle.nmvs_tests.proofs.Gives.{Gives}

abbrev text : List ℕ → Text
text t = record { bytes = t }

-- each command has one line, and is read back from it
abbrev enrolled : Option Expiry → Option Codes → Command
enrolled until products = Enrol (text (codes "ph9")) (record {
  actor = record { role = role.Holder; authorisation = text (codes "PH-9"); premises = text (codes "P9") };
  until = until;
  codes = products;
})

lines : Gives command_line (
    (enrolled None None, codes "ENROL ph9 HOLDER PH-9 P9")
    ∷ (enrolled (Some (text (codes "271231"))) None, codes "ENROL ph9 HOLDER PH-9 P9 UNTIL 271231")
    ∷ (enrolled None (Some (text (codes "9506000,04012345678901"))), codes "ENROL ph9 HOLDER PH-9 P9 CODES 9506000,04012345678901")
    ∷ (enrolled (Some (text (codes "271231"))) (Some (text (codes "9506000"))), codes "ENROL ph9 HOLDER PH-9 P9 UNTIL 271231 CODES 9506000")
    ∷ (Suspend (text (codes "ph9")), codes "SUSPEND ph9")
    ∷ (Remove (text (codes "ph9")), codes "REMOVE ph9")
    ∷ [])
lines = refl

in-grammars : is_command (enrolled (Some (text (codes "271231"))) (Some (text (codes "9506000,04012345678901")))) ≡ true
in-grammars = refl

faults : Gives first_command_fault (
    (codes "ENROL ph9 PHARMACY PH-9 P9", None)
    ∷ (codes "SUSPEND ph9", None)
    ∷ (codes "REMOVE ph9", None)
    ∷ (codes "ENROL ph9 DOCTOR PH-9 P9", Some fault.Role)
    ∷ (codes "ENROL -x DOCTOR P/9 P9", Some fault.Role)
    ∷ (codes "SUSPEND", Some fault.Fields)
    ∷ (codes "enrol x", Some fault.Word)
    ∷ (codes "SUSPEND -x", Some fault.User)
    ∷ (codes "REMOVE", Some fault.Fields)
    ∷ (codes "REMOVE ph9 ph9", Some fault.Fields)
    ∷ (codes "REMOVE -x", Some fault.User)
    ∷ (codes "ENROL -x PHARMACY P/9 P9", Some fault.User)
    ∷ (codes "ENROL ph9 PHARMACY P/9 -x", Some fault.Authorisation)
    ∷ (codes "ENROL ph9 PHARMACY PH-9 -x", Some fault.Premises)
    ∷ (codes "ENROL ph9 HOLDER PH-9 P9 UNTIL 271231 CODES 9506000", None)
    ∷ (codes "ENROL ph9 HOLDER PH-9 P9 UNTIL 270230", Some fault.Until)
    ∷ (codes "ENROL ph9 HOLDER PH-9 P9 UNTIL", Some fault.Fields)
    ∷ (codes "ENROL ph9 HOLDER PH-9 P9 CODES 095", Some fault.Codes)
    ∷ (codes "ENROL ph9 HOLDER PH-9 P9 CODES 09506000134353", Some fault.Codes)
    ∷ (codes "ENROL ph9 HOLDER PH-9 P9 CODES 9506000,", Some fault.Codes)
    ∷ (codes "ENROL ph9 HOLDER PH-9 P9 CODES 9506000 0401234", Some fault.Fields)
    ∷ (codes "ENROL ph9 HOLDER PH-9 P9 CODES 9506000 UNTIL 271231", Some fault.Fields)
    ∷ (codes "ENROL ph9 HOLDER PH-9 P9 FROM 271231", Some fault.Fields)
    ∷ (codes "SUSPEND ph9\r", Some fault.Bytes)
    ∷ (codes "SUSPEND ph9\u{7f}", Some fault.Bytes)
    ∷ (replicate 201 65, Some fault.Long)
    ∷ [])
unfolding first_command_fault is_role
faults = refl

-- whether a peer may name a user of this authorisation
abbrev speaks : Peer → List ℕ × List ℕ → Bool
speaks p u = speaks_for p (text u.0) (text u.1)

anyone : Gives (speaks peer.Anyone) (((codes "ph1", codes "ph1"), true) ∷ ((codes "ph2", codes "ph2"), true) ∷ [])
anyone = refl

by-user : Gives (speaks (peer_named name_of.User (text (codes "ph1")))) (
    ((codes "ph1", codes "ph1"), true)
    ∷ ((codes "ph1", codes "ph2"), true)
    ∷ ((codes "ph1b", codes "ph1"), false)
    ∷ ((codes "ph2", codes "ph2"), false)
    ∷ [])
by-user = refl

by-authorisation : Gives (speaks (peer_named name_of.Authorisation (text (codes "ph1")))) (
    ((codes "ph1", codes "ph1"), true)
    ∷ ((codes "ph1", codes "ph2"), false)
    ∷ ((codes "ph1b", codes "ph1"), true)
    ∷ ((codes "ph2", codes "ph2"), false)
    ∷ [])
by-authorisation = refl
