-- The answer that a clerk receives.
use Rattle.std.specs.Prelude.{ℕ, ◌≡◌, ◌≢◌, Bool, true, false, List, [], ◌∷◌, ◌++◌, Option, Some, None}
use mathlib.Core.List.{IsPrefix}
use Rattle.nmvs_history.specs.Views.{TokenView}
use Rattle.nmvs_rules.specs.declared.entry.Entry.{Entry}
use Rattle.nmvs_rules.specs.declared.printed.Printed.{Printed}
use Rattle.nmvs_rules.specs.declared.put.Put.{Put}
use Rattle.nmvs_rules.specs.Entries.{AreEntries}
use Rattle.nmvs_rules.specs.Rules.{IsLawful, answered, shown_of}
use Rattle.nmvs_tables.specs.declared.cursor.Cursor.{Cursor}
use Rattle.nmvs_shard.specs.declared.shard.Outcome.{Outcome}
use Rattle.nmvs_shard.specs.declared.shard.Outcome.TheVariants as outcome
use Rattle.nmvs_shard.specs.Asking.{Asks}
use Rattle.nmvs_desk.specs.declared.ask.Receipt.{Receipt}
use Rattle.nmvs_desk.specs.Placing.{IsPartOf}
use Rattle.nmvs_desk.specs.Settlement.{row}
use Rattle.nmvs_desk.specs.Views.{ClerkView}

-- the trail that was seen begins the trail that is seen now. That is lawful, and its entries are in their grammars and
-- ranges. They belong to the shard, of `count`, and their questions were new where they were put.
pub record IsShown (count index : ℕ) (before after : List Entry) : Type 0 where
  pub begins : IsPrefix before after
  pub lawful : IsLawful after
  pub in_range : AreEntries after
  pub placed : IsPartOf count index after

-- the place of the entry of a question that was put
abbrev pub new_places : Outcome → List ℕ
new_places (outcome.New a) = a.place ∷ []
new_places _ = []

-- the receipt of that entry, in the shard of this number: the question with its reply
abbrev pub new_receipts : ℕ → Put → Outcome → List Receipt
new_receipts index put (outcome.New a) = record { shard = index; place = a.place; entry = answered put a.reply } ∷ []
new_receipts index put _ = []

-- the receipts that a clerk then has in hand: the earlier ones and the new one if it keeps receipts, else none
abbrev pub receipts_then : Bool → List Receipt → ℕ → Put → Outcome → List Receipt
receipts_then true receipts index put o = receipts ++ new_receipts index put o
receipts_then false receipts index put o = []

-- a cursor over the entries that the outcome shows, if it shows any
abbrev pub cursor_of : Outcome → Option Cursor
cursor_of (outcome.New a) = a.shown
cursor_of _ = None

-- the entries that an outcome shows if the question was put on this trail: those that the rules show, and no other
abbrev pub shown_by : List Entry → Put → Outcome → List Entry
shown_by trail put (outcome.New a) = shown_of trail put
shown_by trail put _ = []

-- the change of a token by a question that it asks in the shard of this number. The question is answered on a trail of
-- the shard that begins with all that the token had seen. Now the token has seen the trail after the answer, and owns
-- the place of the entry if the question was put.
pub record Becomes (count index : ℕ) (put : Put) (printed : Option Printed) (was now : TokenView) (o : Outcome) : Type 0 where
  pub trail : List Entry
  pub shown : IsShown count index was.seen trail
  pub asks : Asks trail put printed now.seen o
  pub later : IsShown count index trail now.seen
  pub token : now ≡ record was { seen = now.seen; places = was.places ++ new_places o }

-- the change of a clerk by a question in the shard of this number. It is answered on a trail of the shard that begins
-- with all that the clerk had seen of it. Now the clerk has seen the trail after the answer, and no more of another
-- shard. If the question was put, its entry's place is the clerk's own, and its receipt is in hand if the clerk keeps
-- receipts. Nothing else changes. With it come the entries that the rules show.
pub record Answers (count index : ℕ) (put : Put) (printed : Option Printed) (old new : ClerkView) (o : Outcome) (entries : List Entry) : Type 0 where
  pub trail : List Entry
  pub shown : IsShown count index (row old.sights index) trail
  pub asks : Asks trail put printed (row new.sights index) o
  pub later : IsShown count index trail (row new.sights index)
  pub owned : row new.places index ≡ row old.places index ++ new_places o
  pub others : (i : ℕ) → i ≢ index → (row new.sights i ≡ row old.sights i) × (row new.places i ≡ row old.places i)
  pub shows : entries ≡ shown_by trail put o
  pub receipts : new.receipts ≡ receipts_then old.keeps old.receipts index put o
  pub keeps : new.keeps ≡ old.keeps
  pub seen : new.seen ≡ old.seen
