-- Users, authorisations and premises under other names (own, for Article 38(1)).
use Rattle.std.specs.Prelude.{ℕ, ◌≡◌, true, List, map}
use Rattle.nmvs_identifier.specs.Name.{Name}
use Rattle.nmvs_identifier.specs.Texts.{same_text}
use Rattle.nmvs_rules.specs.declared.actor.Actor.{Actor}
use Rattle.nmvs_rules.specs.declared.entry.Entry.{Entry}
use Rattle.nmvs_rules.specs.declared.put.Put.{Put}
use Rattle.nmvs_rules.specs.declared.role.Role.TheVariants.{Holder}
use Rattle.nmvs_cases.specs.declared.author.Author.{Author}
use Rattle.nmvs_cases.specs.declared.author.Author.TheVariants.{Officer, User}
use Rattle.nmvs_cases.specs.declared.line.CaseLine.{CaseLine}
use Rattle.nmvs_cases.specs.Authors.{author_user}
use Rattle.nmvs_alerts.specs.Alerts.{Investigated, ShownLine}

-- other names of users, authorisations and premises, and the texts of lines of cases with them
pub record Renaming : Type 0 where
  pub user : Name → Name
  pub authorisation : Name → Name
  pub premises : Name → Name
  pub text : ShownLine → List ℕ

abbrev pub IsOneToOne : (Name → Name) → Type 0
IsOneToOne f = (a b : Name) → f a ≡ f b → a ≡ b

-- others have other names, one to one: this user keeps its name, its authorisation and the texts of its lines
pub record RenamesOthers (r : Renaming) (user authorisation : Name) : Type 0 where
  pub users : IsOneToOne r.user
  pub authorisations : IsOneToOne r.authorisation
  pub premises : IsOneToOne r.premises
  pub own_user : r.user user ≡ user
  pub own_authorisation : r.authorisation authorisation ≡ authorisation
  pub own_texts : (l : ShownLine) → same_text (author_user l.line.author) user ≡ true → r.text l ≡ l.text

-- a holder of an authorisation, as a reader
abbrev pub holder : Name → Name → Name → Author
holder user authorisation premises = User user (record { role = Holder; authorisation = authorisation; premises = premises })

abbrev pub renamed_actor : Renaming → Actor → Actor
renamed_actor r a = record { role = a.role; authorisation = r.authorisation a.authorisation; premises = r.premises a.premises }

abbrev pub renamed_put : Renaming → Put → Put
renamed_put r q = record q { user = r.user q.user; actor = renamed_actor r q.actor }

abbrev pub renamed_entry : Renaming → Entry → Entry
renamed_entry r e = record { put = renamed_put r e.put; reply = e.reply }

abbrev pub renamed_author : Renaming → Author → Author
renamed_author r (Officer u) = Officer (r.user u)
renamed_author r (User u a) = User (r.user u) (renamed_actor r a)

abbrev pub renamed_line : Renaming → CaseLine → CaseLine
renamed_line r l = record l { author = renamed_author r l.author }

abbrev pub renamed_shown : Renaming → ShownLine → ShownLine
renamed_shown r l = record { line = renamed_line r l.line; text = r.text l }

-- the same trail and the same lines of cases, with the other names
abbrev pub renamed : Renaming → Investigated → Investigated
renamed r i = record { trail = map (renamed_entry r) i.trail; lines = map (renamed_shown r) i.lines }
