-- The invariant of a clerk's receipts and sights, and of a new clerk.
use Rattle.std.proofs.Common.{◌≡◌, ◌<◌, ◌∙◌, ℕ, zero, suc, Bool, true, false, List, [], ◌∷◌, ◌++◌, set, refl, sym, ap, subst, arith, get_or, append-nil}
use Rattle.std.specs.Prelude.{IsTrue, Option, Some, slice_get}
use Rattle.std.proofs.lemmas.List.Elements.{All-nil}
use Rattle.std.proofs.lemmas.Option.{slice_get-get_or}
use Rattle.nmvs_history.specs.Views.{HistoryId, TokenView}
use Rattle.nmvs_rules.specs.declared.entry.Entry.{Entry}
use Rattle.nmvs_rules.specs.declared.printed.Printed.{Printed}
use Rattle.nmvs_rules.specs.declared.put.Put.{Put}
use Rattle.nmvs_rules.specs.Entries.{is_entry, AreEntries}
use Rattle.nmvs_rules.specs.Questions.{code_of}
use Rattle.nmvs_rules.specs.Rules.{IsLawful}
use Rattle.nmvs_desk.specs.declared.ask.Receipt.{Receipt}
use Rattle.nmvs_shard.specs.declared.shard.Outcome.{Outcome}
use Rattle.nmvs_desk.specs.Answers.{Becomes, new_receipts, receipts_then}
use Rattle.nmvs_desk.specs.Clerks.{IsClerk}
use Rattle.nmvs_desk.specs.Opening.{AreNew, IsNew}
use Rattle.nmvs_desk.specs.Placing.{shard_of, IsPartOf}
use Rattle.nmvs_desk.specs.Settlement.{row, at, AreOwn}
use Rattle.nmvs_desk.specs.Views.{ClerkView, places_of, sights_of}
use Rattle.nmvs_desk.proofs.Asked.{asked, sight_of, own_of}

-- each receipt stands at its place
pub stand : (tables : ℕ → HistoryId) (count : ℕ) (tokens : List TokenView) (receipts : List Receipt) → IsClerk tables count tokens receipts
    → (n : ℕ) (r : Receipt) → slice_get receipts n ≡ Some r → at (sights_of tokens) r.shard r.place ≡ Some r.entry
stand tables count tokens receipts is n r there =
    let it = is.stand n r there in
    ap (λ t. slice_get t r.place) (sight_of tokens r.shard it.token it.is) ∙ it.stands

-- what is true of an empty trail, and of all that each token has seen, is true of all sights
all_sights : (P : ℕ → List Entry → Type 0) → ((i : ℕ) → P i []) → (tokens : List TokenView) → ((i : ℕ) (k : TokenView) → slice_get tokens i ≡ Some k → P i k.seen)
    → (i : ℕ) → P i (row (sights_of tokens) i)
all_sights P none [] each i = none i
all_sights P none (t ∷ ts) each zero = each zero t refl
all_sights P none (t ∷ ts) each (suc i) = all_sights (λ j. P (suc j)) (λ j. none (suc j)) ts (λ j k h. each (suc j) k h) i

-- what a clerk has seen of a shard is lawful, in grammars and ranges, and belongs to the shard
pub lawful : (tables : ℕ → HistoryId) (count : ℕ) (tokens : List TokenView) (receipts : List Receipt) → IsClerk tables count tokens receipts
    → (i : ℕ) → IsLawful (row (sights_of tokens) i) × AreEntries (row (sights_of tokens) i) × IsPartOf count i (row (sights_of tokens) i)
lawful tables count tokens receipts is =
    all_sights (λ i t. IsLawful t × AreEntries t × IsPartOf count i t) (λ i. (tt, All-nil (λ (e : Entry). IsTrue (is_entry e)), record { placed = All-nil (λ (e : Entry). shard_of count (code_of e.put.question) ≡ i); new = tt })) tokens
    (λ i k at. ((is.each i k at).lawful, (is.each i k at).in_range, (is.each i k at).placed))

-- its receipts' places are among its own
pub own : (tables : ℕ → HistoryId) (count : ℕ) (tokens : List TokenView) (receipts : List Receipt) → IsClerk tables count tokens receipts
    → (i : ℕ) → i < count → AreOwn i receipts (row (places_of tokens) i)
own tables count tokens receipts is i within =
    let d : TokenView = record { table = tables i; seen = []; places = [] } in
    let there = slice_get-get_or tokens i d (omega (arith, is.shards, within)) in
    subst (λ l. AreOwn i receipts l) (sym (own_of tokens i (get_or tokens i d) there)) (is.each i (get_or tokens i d) there).places

-- a clerk that let its receipts go
pub let_go : (tables : ℕ → HistoryId) (count : ℕ) (tokens : List TokenView) (receipts : List Receipt) → IsClerk tables count tokens receipts → IsClerk tables count tokens []
let_go tables count tokens receipts is = record {
  shards = is.shards;
  each = λ i k at.
      let it = is.each i k at in
      record { table = it.table; places = record { gone = k.places; is = sym (append-nil k.places) }; lawful = it.lawful; in_range = it.in_range; placed = it.placed };
  stand = λ n r there. absurd cc;
  rising = λ k m p q less at_k at_m same. absurd cc;
}

-- a clerk that was answered, whether it keeps its receipt or not
pub asked_then : (tables : ℕ → HistoryId) (count : ℕ) (tokens : List TokenView) (receipts : List Receipt) → IsClerk tables count tokens receipts
    → (index : ℕ) (was now : TokenView) → slice_get tokens index ≡ Some was → (keeps : Bool) (put : Put) (printed : Option Printed) (o : Outcome) → Becomes count index put printed was now o
    → IsClerk tables count (set tokens index now) (receipts_then keeps receipts index put o)
asked_then tables count tokens receipts is index was now has true put printed o b = asked tables count tokens receipts is index was now has put printed o b
asked_then tables count tokens receipts is index was now has false put printed o b =
    let_go tables count (set tokens index now) (receipts ++ new_receipts index put o) (asked tables count tokens receipts is index was now has put printed o b)

-- a clerk with new tokens and no receipt
pub new_clerk : (tables : ℕ → HistoryId) (count : ℕ) (opening : ℕ → List Entry) (tokens : List TokenView) → AreNew tables count opening count tokens → IsClerk tables count tokens []
new_clerk tables count opening tokens new = record {
  shards = new.length;
  each = λ i k at.
      let it = new.each i k at in
      let seen = ap (λ (k : TokenView). k.seen) it.is in
      record {
        table = ap (λ (k : TokenView). k.table) it.is;
        places = record { gone = []; is = ap (λ (k : TokenView). k.places) it.is };
        lawful = subst (λ t. IsLawful t) (sym seen) it.lawful;
        in_range = subst (λ t. AreEntries t) (sym seen) it.in_range;
        placed = subst (λ t. IsPartOf count i t) (sym seen) it.placed;
      };
  stand = λ n r there. absurd cc;
  rising = λ k m p q less at_k at_m same. absurd cc;
}

-- it has seen the trail of the opening of each shard, and owns no place
pub is_new : (tables : ℕ → HistoryId) (count : ℕ) (opening : ℕ → List Entry) (tokens : List TokenView) (c : ClerkView) → AreNew tables count opening count tokens
    → c.receipts ≡ [] → c.sights ≡ sights_of tokens → c.places ≡ places_of tokens → IsNew count opening c
is_new tables count opening tokens c new none sights places = record {
  receipts = none;
  sights = λ i within. ap (λ s. row s i) sights ∙ sight_of tokens i (token i) (there i within) ∙ ap (λ (k : TokenView). k.seen) (new.each i (token i) (there i within)).is;
  places = λ i within. ap (λ s. row s i) places ∙ own_of tokens i (token i) (there i within) ∙ ap (λ (k : TokenView). k.places) (new.each i (token i) (there i within)).is;
}
  where
    token : ℕ → TokenView
    token i = get_or tokens i (record { table = tables i; seen = []; places = [] })

    there : (i : ℕ) → i < count → slice_get tokens i ≡ Some (token i)
    there i within = slice_get-get_or tokens i (record { table = tables i; seen = []; places = [] }) (omega (arith, new.length, within))
