use Rattle.std.proofs.Common.{rules, ap, ◌∙◌, ◌≡◌}
use Rattle.std.specs.Map.{lookup}
use Rattle.indexmap.specs.IndexMap.{get, insert_entry}
use Rattle.nmvs_identifier.specs.Texts.{same_text}
use Rattle.nmvs_directory.specs.Users.{standing_after}
use Rattle.nmvs_directory.proofs.UsersLemmas.{users_of-add, standing-add}
use Rattle.nmvs_directory.proofs.users.UsersAbsorbHistory.absorb_first.Goals as goal

pub invariant_of-self-2 : goal.invariant_of-self-2
invariant_of-self-2 g c =
    let before = c.self.inside.history in
    let after = c.again.result in
    let change = c.in_ok-user.field-0 in
    let standings = c.self.inside.standings in
    let was = lookup (same_text change.user) standings.entries in
    let copied : c.copied.result ≡ was = search rules in
    let now : c.after-standing.result ≡ standing_after was change.effect = c.after-standing.ensures ∙ ap (λ w. standing_after w change.effect) copied in
    let entries : c.insert.new.self.entries ≡ insert_entry same_text standings.entries change.user c.after-standing.result = search rules in (
      users_of-add before after change standings.entries c.insert.new.self.entries (search rules) c.self.invariant.0
          (entries ∙ ap (insert_entry same_text standings.entries change.user) now),
      λ user. standing-add before after change user c.copied.result (get same_text standings user) (get same_text c.insert.new.self user) (search rules) (c.self.invariant.1 user) (search rules),
    )
