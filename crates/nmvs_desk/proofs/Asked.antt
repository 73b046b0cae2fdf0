-- A clerk that was answered, or that looked at a shard, is a clerk, and has seen more of that shard alone.
use Rattle.std.proofs.Common.{◌≡◌, ◌≢◌, ◌<◌, ◌==◌, ℕ, zero, suc, Bool, List, [], ◌∷◌, ◌++◌, map, set, cond, sym, refl, ap, ◌∙◌, subst, arith, inl, inr, eq-eqb, ne_eqb, length-set, append-nil, append_assoc}
use Rattle.std.specs.Prelude.{Option, Some, slice_get, filter}
use Rattle.std.proofs.lemmas.Option.{slice_get_within, same_Some}
use Rattle.std.proofs.lemmas.List.{map-append}
use Rattle.std.proofs.lemmas.List.Elements.{filter-append}
use Rattle.std.proofs.lemmas.Bool.Decides.{eqb_tells}
use mathlib.Core.List.{IsPrefix}
use Rattle.nmvs_history.specs.Views.{HistoryId, TokenView}
use Rattle.nmvs_history.proofs.Beginnings.{prefix_get, prefix_length, prefix_trans}
use Rattle.nmvs_rules.specs.declared.entry.Entry.{Entry}
use Rattle.nmvs_rules.specs.declared.printed.Printed.{Printed}
use Rattle.nmvs_rules.specs.declared.put.Put.{Put}
use Rattle.nmvs_rules.specs.Rules.{answered}
use Rattle.nmvs_directory.specs.declared.change.Change.{Change}
use Rattle.nmvs_shard.specs.declared.shard.Answered.{Answered}
use Rattle.nmvs_shard.specs.declared.shard.Outcome.{Outcome}
use Rattle.nmvs_shard.specs.declared.shard.Outcome.TheVariants as outcome
use Rattle.nmvs_shard.specs.Asking.{Asks}
use Rattle.nmvs_desk.specs.declared.ask.Receipt.{Receipt}
use Rattle.nmvs_desk.specs.Answers.{shown_by, Answers, Becomes, IsShown, new_places, new_receipts, receipts_then}
use Rattle.nmvs_desk.specs.Clerks.{IsTokenOf, Stands, IsClerk}
use Rattle.nmvs_desk.specs.Settlement.{row, places_in, AreOwn, Rises}
use Rattle.nmvs_desk.specs.Views.{ClerkView, sights_of, places_of}
use Rattle.nmvs_desk.proofs.Lists.{set_cases, set_same, set_other, push_cases}
use Rattle.nmvs_desk.proofs.Serving.{last_there}

-- the places of one more receipt
pub places_push : (i : ℕ) (receipts : List Receipt) (r : Receipt) → places_in i (receipts ++ r ∷ []) ≡ places_in i receipts ++ places_in i (r ∷ [])
places_push i receipts r =
    ap (map (λ (r : Receipt). r.place)) (filter-append (λ (r : Receipt). r.shard == i) receipts (r ∷ []))
    ∙ map-append (λ (r : Receipt). r.place) (filter (λ (r : Receipt). r.shard == i) receipts) (filter (λ (r : Receipt). r.shard == i) (r ∷ []))

pub places_here : (i : ℕ) (receipts : List Receipt) (r : Receipt) → r.shard ≡ i → places_in i (receipts ++ r ∷ []) ≡ places_in i receipts ++ r.place ∷ []
places_here i receipts r is =
    places_push i receipts r ∙ ap (λ b. places_in i receipts ++ map (λ (r : Receipt). r.place) (cond b (r ∷ []) [])) (eq-eqb r.shard i is)

pub places_else : (i : ℕ) (receipts : List Receipt) (r : Receipt) → r.shard ≢ i → places_in i (receipts ++ r ∷ []) ≡ places_in i receipts
places_else i receipts r apart =
    places_push i receipts r ∙ ap (λ b. places_in i receipts ++ map (λ (r : Receipt). r.place) (cond b (r ∷ []) [])) (ne_eqb r.shard i apart)
    ∙ append-nil (places_in i receipts)

-- a token's own list stands among the lists of all tokens
token_row : {X : Type 0} (f : TokenView → List X) (tokens : List TokenView) (i : ℕ) (k : TokenView) → slice_get tokens i ≡ Some k → row (map f tokens) i ≡ f k
token_row f [] i k h = absurd cc
token_row f (t ∷ ts) zero k h = ap f (same_Some t k h)
token_row f (t ∷ ts) (suc i) k h = token_row f ts i k h

token_row_else : {X : Type 0} (f : TokenView → List X) (tokens : List TokenView) (i j : ℕ) (k : TokenView) → j ≢ i → row (map f (set tokens i k)) j ≡ row (map f tokens) j
token_row_else f [] i j k apart = refl
token_row_else f (t ∷ ts) zero zero k apart = absurd (apart refl)
token_row_else f (t ∷ ts) zero (suc j) k apart = refl
token_row_else f (t ∷ ts) (suc i) zero k apart = refl
token_row_else f (t ∷ ts) (suc i) (suc j) k apart = token_row_else f ts i j k (λ e. apart (ap suc e))

pub sight_of : (tokens : List TokenView) (i : ℕ) (k : TokenView) → slice_get tokens i ≡ Some k → row (sights_of tokens) i ≡ k.seen
sight_of tokens i k h = token_row (λ (k : TokenView). k.seen) tokens i k h

pub sight_else : (tokens : List TokenView) (i j : ℕ) (k : TokenView) → j ≢ i → row (sights_of (set tokens i k)) j ≡ row (sights_of tokens) j
sight_else tokens i j k apart = token_row_else (λ (k : TokenView). k.seen) tokens i j k apart

pub own_of : (tokens : List TokenView) (i : ℕ) (k : TokenView) → slice_get tokens i ≡ Some k → row (places_of tokens) i ≡ k.places
own_of tokens i k h = token_row (λ (k : TokenView). k.places) tokens i k h

own_else : (tokens : List TokenView) (i j : ℕ) (k : TokenView) → j ≢ i → row (places_of (set tokens i k)) j ≡ row (places_of tokens) j
own_else tokens i j k apart = token_row_else (λ (k : TokenView). k.places) tokens i j k apart

-- a token in place of another with the same places
pub same_places : (tokens : List TokenView) (i : ℕ) (was now : TokenView) → slice_get tokens i ≡ Some was → now.places ≡ was.places → places_of (set tokens i now) ≡ places_of tokens
same_places [] i was now has same = refl
same_places (t ∷ ts) zero was now has same = ap (λ ps. ps ∷ places_of ts) (same ∙ ap (λ (k : TokenView). k.places) (sym (same_Some t was has)))
same_places (t ∷ ts) (suc i) was now has same = ap (λ ps. t.places ∷ ps) (same_places ts i was now has same)

-- the view of a clerk in a clause
abbrev pub clerk : List Change → List TokenView → List Receipt → Bool → ClerkView
clerk seen tokens receipts keeps = record { seen = seen; sights = sights_of tokens; places = places_of tokens; receipts = receipts; keeps = keeps }

module _ (tables : ℕ → HistoryId) (count : ℕ) (tokens : List TokenView) (receipts : List Receipt) (is : IsClerk tables count tokens receipts) (index : ℕ) (was now : TokenView) (has : slice_get tokens index ≡ Some was) where
  after_set : slice_get (set tokens index now) index ≡ Some now
  after_set = set_same tokens index now (slice_get_within tokens index was has)

  -- a receipt still stands if the new sight begins with the earlier one
  stays : IsPrefix was.seen now.seen → (o : Receipt) → Stands tokens o → Stands (set tokens index now) o
  stays begins o it =
      elim (eqb_tells o.shard index) [
        | inl e ↦ (
            let same : it.token ≡ was = cc (it.is, has, e.1) in
            record {
              token = now;
              is = subst (λ i. slice_get (set tokens index now) i ≡ Some now) (sym e.1) after_set;
              stands = prefix_get was.seen now.seen o.place o.entry begins (subst (λ (k : TokenView). slice_get k.seen o.place ≡ Some o.entry) same it.stands);
            })
        | inr e ↦ record { token = it.token; is = set_other tokens index o.shard now e.1 ∙ it.is; stands = it.stands }
      ]

  begins_now : (put : Put) (printed : Option Printed) (o : Outcome) → Becomes count index put printed was now o → IsPrefix was.seen now.seen
  begins_now put printed o b = prefix_trans was.seen b.trail now.seen b.shown.begins b.later.begins

  shown_now : (put : Put) (printed : Option Printed) (o : Outcome) → Becomes count index put printed was now o → IsShown count index was.seen now.seen
  shown_now put printed o b = record { begins = begins_now put printed o b; lawful = b.later.lawful; in_range = b.later.in_range; placed = b.later.placed }

  -- a question that was not put gives the token no place
  no_place : (put : Put) (printed : Option Printed) (o : Outcome) → Becomes count index put printed was now o → new_places o ≡ [] → now ≡ record was { seen = now.seen }
  no_place put printed o b none = b.token ∙ ap (λ l. record was { seen = now.seen; places = l }) (ap (λ l. was.places ++ l) none ∙ append-nil was.places)

  module _ (a : Answered) (put : Put) (printed : Option Printed) (b : Becomes count index put printed was now (outcome.New a)) where
    abbrev New : List Receipt
    New = receipts ++ new_receipts index put (outcome.New a)

    abbrev Its : Receipt
    Its = record { shard = index; place = a.place; entry = answered put a.reply }

    token_now : IsTokenOf tables count New index now
    token_now =
        let own = is.each index was has in
        record {
          table = ap (λ (k : TokenView). k.table) b.token ∙ own.table;
          places = record {
            gone = own.places.gone;
            is = ap (λ (k : TokenView). k.places) b.token ∙ ap (λ l. l ++ a.place ∷ []) own.places.is
                ∙ append_assoc own.places.gone (places_in index receipts) (a.place ∷ []) ∙ ap (λ l. own.places.gone ++ l) (sym (places_here index receipts Its refl));
          };
          lawful = b.later.lawful;
          in_range = b.later.in_range;
          placed = b.later.placed;
        }

    each_now : (i : ℕ) (k : TokenView) → slice_get (set tokens index now) i ≡ Some k → IsTokenOf tables count New i k
    each_now i k at =
        elim (set_cases tokens index i now k at) [
          | inl e ↦ subst (λ (p : ℕ × TokenView). IsTokenOf tables count New p.0 p.1) (λ j. (sym e.0 j, sym e.1 j)) token_now
          | inr e ↦ (
              let other = is.each i k e.1 in
              let apart = e.0 in
              record {
                table = other.table;
                places = record {
                  gone = other.places.gone;
                  is = other.places.is ∙ ap (λ l. other.places.gone ++ l) (sym (places_else i receipts Its (λ q. apart (sym q))));
                };
                lawful = other.lawful;
                in_range = other.in_range;
                placed = other.placed;
              })
        ]

    stands_now : Stands (set tokens index now) Its
    stands_now =
        record {
          token = now;
          is = after_set;
          stands = last_there b.trail now.seen put printed a b.asks;
        }

    below : (n : ℕ) (o : Receipt) → slice_get receipts n ≡ Some o → o.shard ≡ index → o.place < a.place
    below n o at same =
        let it = is.stand n o at in
        let token : it.token ≡ was = cc (it.is, has, same) in
        let within = slice_get_within was.seen o.place o.entry (subst (λ (k : TokenView). slice_get k.seen o.place ≡ Some o.entry) token it.stands) in
        omega (arith, within, prefix_length was.seen b.trail b.shown.begins, b.asks.2.place)

    rises_now : Rises New
    rises_now k m p q less at_k at_m same =
        elim (push_cases receipts m Its q at_m) [
          | inl new_m ↦ (
              elim (push_cases receipts k Its p at_k) [
                | inl new_k ↦ absurd (omega (arith, less, new_k.0, new_m.0))
                | inr old_k ↦ subst (λ (z : Receipt). p.place < z.place) (sym new_m.1) (below k p old_k (same ∙ ap (λ (z : Receipt). z.shard) new_m.1))
              ])
          | inr old_m ↦ (
              elim (push_cases receipts k Its p at_k) [
                | inl new_k ↦ absurd (omega (arith, less, new_k.0, slice_get_within receipts m q old_m))
                | inr old_k ↦ is.rising k m p q less old_k old_m same
              ])
        ]

    with_receipt : IsClerk tables count (set tokens index now) New
    with_receipt = record {
      shards = length-set tokens index now ∙ is.shards;
      each = each_now;
      stand = λ n o at. elim (push_cases receipts n Its o at) [ inl new ↦ subst (λ (z : Receipt). Stands (set tokens index now) z) (sym new.1) stands_now | inr old ↦ stays (begins_now put printed (outcome.New a) b) o (is.stand n o old) ];
      rising = rises_now;
    }

  module _ (look : IsShown count index was.seen now.seen) (token : now ≡ record was { seen = now.seen }) where
    each_looked : (i : ℕ) (k : TokenView) → slice_get (set tokens index now) i ≡ Some k → IsTokenOf tables count receipts i k
    each_looked i k at =
        elim (set_cases tokens index i now k at) [
          | inl e ↦ (
              let own = is.each index was has in
              subst (λ (p : ℕ × TokenView). IsTokenOf tables count receipts p.0 p.1) (λ j. (sym e.0 j, sym e.1 j)) (record {
                table = ap (λ (k : TokenView). k.table) token ∙ own.table;
                places = subst (λ l. AreOwn index receipts l) (sym (ap (λ (k : TokenView). k.places) token)) own.places;
                lawful = look.lawful;
                in_range = look.in_range;
                placed = look.placed;
              }))
          | inr e ↦ is.each i k e.1
        ]

    pub looked : IsClerk tables count (set tokens index now) receipts
    looked = record {
      shards = length-set tokens index now ∙ is.shards;
      each = each_looked;
      stand = λ n o at. stays look.begins o (is.stand n o at);
      rising = is.rising;
    }

    pub shown_then : IsShown count index (row (sights_of tokens) index) (row (sights_of (set tokens index now)) index)
    shown_then =
        subst (λ (p : List Entry × List Entry). IsShown count index p.0 p.1)
        (λ i. (sym (sight_of tokens index was has) i, sym (sight_of (set tokens index now) index now after_set) i)) look

  -- whatever the outcome of a question is, the clerk is a clerk
  pub asked : (put : Put) (printed : Option Printed) (o : Outcome) → Becomes count index put printed was now o → IsClerk tables count (set tokens index now) (receipts ++ new_receipts index put o)
  asked put printed (outcome.New a) b = with_receipt a put printed b
  asked put printed (outcome.Again a) b = subst (λ l. IsClerk tables count (set tokens index now) l) (sym (append-nil receipts)) (looked (shown_now put printed (outcome.Again a) b) (no_place put printed (outcome.Again a) b refl))
  asked put printed (outcome.NotPut why n) b = subst (λ l. IsClerk tables count (set tokens index now) l) (sym (append-nil receipts)) (looked (shown_now put printed (outcome.NotPut why n) b) (no_place put printed (outcome.NotPut why n) b refl))

  -- the answer that it receives
  pub answers : (seen : List Change) (keeps : Bool) (put : Put) (printed : Option Printed) (o : Outcome) (entries : List Entry) (b : Becomes count index put printed was now o) → entries ≡ shown_by b.trail put o
      → Answers count index put printed (clerk seen tokens receipts keeps) (clerk seen (set tokens index now) (receipts_then keeps receipts index put o) keeps) o entries
  answers seen keeps put printed o entries b shows =
      let before = sym (sight_of tokens index was has) in
      let after = sym (sight_of (set tokens index now) index now after_set) in
      record {
        trail = b.trail;
        shown = subst (λ t. IsShown count index t b.trail) before b.shown;
        asks = subst (λ t. Asks b.trail put printed t o) after b.asks;
        later = subst (λ t. IsShown count index b.trail t) after b.later;
        owned = own_of (set tokens index now) index now after_set ∙ ap (λ (k : TokenView). k.places) b.token ∙ ap (λ l. l ++ new_places o) (sym (own_of tokens index was has));
        others = λ i apart. (sight_else tokens index i now apart, own_else tokens index i now apart);
        shows = shows;
        receipts = refl;
        keeps = refl;
        seen = refl;
      }
