-- The entries that are shown with an answer stay the same while the trail grows.
use Rattle.std.proofs.Common.{◌≡◌, List, Option, None, Some, sym, ap, subst, refl, ◌∙◌}
use Rattle.std.specs.Option.{ForSome}
use mathlib.Core.List.{IsPrefix}
use Rattle.nmvs_rules.specs.declared.entry.Entry.{Entry}
use Rattle.nmvs_rules.specs.declared.printed.Printed.{Printed}
use Rattle.nmvs_rules.specs.declared.put.Put.{Put}
use Rattle.nmvs_tables.specs.declared.cursor.Cursor.{Cursor}
use Rattle.nmvs_tables.specs.Cursors.{remaining, IsCursorOf}
use Rattle.nmvs_tables.proofs.CursorLemmas.{remaining-grown, IsCursorOf-grown}
use Rattle.nmvs_shard.specs.Asking.{Asks, shown_in}
use Rattle.nmvs_shard.specs.declared.shard.Outcome.{Outcome}
use Rattle.nmvs_shard.specs.declared.shard.Outcome.TheVariants as outcome
use Rattle.nmvs_messages.specs.Withheld.{entries_left}
use Rattle.nmvs_desk.specs.Answers.{cursor_of, shown_by}

-- a cursor over the earlier trail is one over the later trail, with the same entries left
pub cursor_kept : (t u : List Entry) (c : Cursor) → IsPrefix t u → IsCursorOf t c → IsCursorOf u c
cursor_kept t u c (v, whole) is = subst (λ (x : List Entry). IsCursorOf x c) whole (IsCursorOf-grown t v c is)

pub remaining_kept : (t u : List Entry) (c : Cursor) → IsPrefix t u → IsCursorOf t c → remaining u c ≡ remaining t c
remaining_kept t u c (v, whole) is = ap (λ x. remaining x c) (sym whole) ∙ remaining-grown t v c is

-- the cursor of an outcome is one over the trail after it
pub cursor_stands : (old new : List Entry) (put : Put) (printed : Option Printed) (o : Outcome) → Asks old put printed new o → IsPrefix old new → ForSome (cursor_of o) (IsCursorOf new)
cursor_stands old new put printed (outcome.New a) asks begins = λ c here. cursor_kept old new c begins (asks.2.cursor c here)
cursor_stands old new put printed (outcome.Again a) asks begins = λ c here. absurd cc
cursor_stands old new put printed (outcome.NotPut why n) asks begins = λ c here. absurd cc

-- and the entries that the rules show
pub shows_rules : (old new : List Entry) (put : Put) (printed : Option Printed) (o : Outcome) (r : Option (List Entry)) → Asks old put printed new o → IsPrefix old new → (cursor_of o ≡ None → r ≡ None) → ForSome (cursor_of o) (λ c. r ≡ Some (remaining new c)) → entries_left (λ (s : List Entry). s) r ≡ shown_by old put o
shows_rules old new put printed (outcome.New a) r asks begins none some = by a.shown refl
  where
    by : (o : Option Cursor) → a.shown ≡ o → entries_left (λ (s : List Entry). s) r ≡ shown_by old put (outcome.New a)
    by None is = ap (entries_left (λ (s : List Entry). s)) (none is) ∙ ap (shown_in old) (sym is) ∙ asks.2.shows
    by (Some c) is = ap (entries_left (λ (s : List Entry). s)) (some c is) ∙ remaining_kept old new c begins (asks.2.cursor c is) ∙ ap (shown_in old) (sym is) ∙ asks.2.shows
shows_rules old new put printed (outcome.Again a) r asks begins none some = ap (entries_left (λ (s : List Entry). s)) (none refl)
shows_rules old new put printed (outcome.NotPut why n) r asks begins none some = ap (entries_left (λ (s : List Entry). s)) (none refl)
