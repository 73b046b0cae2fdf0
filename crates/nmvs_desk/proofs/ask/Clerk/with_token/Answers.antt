use Rattle.std.proofs.Common.{◌∙◌, ℕ, List, set, sym, ap, subst, arith}
use Rattle.std.proofs.lemmas.Option.{slice_get_read}
use Rattle.nmvs_history.specs.Views.{TokenView}
use Rattle.nmvs_rules.specs.declared.entry.Entry.{Entry}
use Rattle.nmvs_desk.specs.Answers.{IsShown}
use Rattle.nmvs_desk.specs.Placing.{IsPartOf}
use Rattle.nmvs_desk.specs.Settlement.{row}
use Rattle.nmvs_desk.specs.Views.{ClerkView, sights_of}
use Rattle.nmvs_desk.proofs.Asked.{looked, same_places, shown_then, sight_else, sight_of}
use Rattle.nmvs_desk.proofs.Lists.{set_same}
use Rattle.nmvs_desk.proofs.ask.Clerk.with_token.Goals as goal

pub hold-requires-clause-table : goal.hold-requires-clause-table
hold-requires-clause-table g c =
    let h = g.H.Histories in
    let is = c.self.invariant in
    let was = c.index_mut.result.now in
    let has = slice_get_read c.self.inside.tokens.items h.shards c.args.index was (sym is.shards) c.requires.index c.index_mut.ensures.value in
    (is.each c.args.index was has).table ∙ ap h.tables (sym c.requires.holder)

pub hold-requires-clause-seen : goal.hold-requires-clause-seen
hold-requires-clause-seen g c =
    let h = g.H.Histories in
    let is = c.self.invariant in
    let was = c.index_mut.result.now in
    let has = slice_get_read c.self.inside.tokens.items h.shards c.args.index was (sym is.shards) c.requires.index c.index_mut.ensures.value in
    let own = is.each c.args.index was has in
    let P : ℕ → Type 0 = λ i. IsPartOf h.shards i was.seen in
    (own.lawful, own.in_range, subst P (sym c.requires.holder) own.placed)

pub hold-requires-clause-may : goal.hold-requires-clause-may
hold-requires-clause-may g c =
    let h = g.H.Histories in
    let is = c.self.invariant in
    let was = c.index_mut.result.now in
    let tokens = c.self.inside.tokens.items in
    let has = slice_get_read tokens h.shards c.args.index was (sym is.shards) c.requires.index c.index_mut.ensures.value in
    let seen = ap (λ (v : ClerkView). row v.sights c.args.index) (sym c.self.view_is) ∙ sight_of tokens c.args.index was has in
    subst (λ (t : List Entry). g.F.Holder.may c.args.holder t) seen c.requires.may

pub invariant_of-self : goal.invariant_of-self
invariant_of-self g c =
    let h = g.H.Histories in
    let is = c.self.invariant in
    let was = c.index_mut.result.now in
    let now = c.hold.new.token in
    let tokens = c.self.inside.tokens.items in
    let has = slice_get_read tokens h.shards c.args.index was (sym is.shards) c.requires.index c.index_mut.ensures.value in
    let shown = subst (λ i. IsShown h.shards i was.seen now.seen) c.requires.holder c.hold.ensures.shown in
    looked h.tables h.shards tokens c.self.inside.receipts.items is c.args.index was now has shown c.hold.ensures.token

pub returns-clause-shown : goal.returns-clause-shown
returns-clause-shown g c =
    let h = g.H.Histories in
    let is = c.self.invariant in
    let was = c.index_mut.result.now in
    let now = c.hold.new.token in
    let tokens = c.self.inside.tokens.items in
    let has = slice_get_read tokens h.shards c.args.index was (sym is.shards) c.requires.index c.index_mut.ensures.value in
    let shown = subst (λ i. IsShown h.shards i was.seen now.seen) c.requires.holder c.hold.ensures.shown in
    let then = shown_then h.tables h.shards tokens c.self.inside.receipts.items is c.args.index was now has shown c.hold.ensures.token in
    subst (λ (s : List (List Entry)). IsShown h.shards c.args.index (row s c.args.index) (row (sights_of (set tokens c.args.index now)) c.args.index)) (ap (λ (v : ClerkView). v.sights) c.self.view_is) then

pub returns-clause-tells : goal.returns-clause-tells
returns-clause-tells g c =
    let h = g.H.Histories in
    let is = c.self.invariant in
    let was = c.index_mut.result.now in
    let now = c.hold.new.token in
    let tokens = c.self.inside.tokens.items in
    let has = slice_get_read tokens h.shards c.args.index was (sym is.shards) c.requires.index c.index_mut.ensures.value in
    let before = ap (λ (v : ClerkView). row v.sights c.args.index) (sym c.self.view_is) ∙ sight_of tokens c.args.index was has in
    let after = sight_of (set tokens c.args.index now) c.args.index now (set_same tokens c.args.index now (omega (arith, is.shards, c.requires.index))) in
    subst (λ (p : List Entry × List Entry). g.F.Holder.tells c.args.holder p.0 p.1 c.hold.result) (λ i. (sym before i, sym after i)) c.hold.ensures.tells

pub returns-clause-others : goal.returns-clause-others
returns-clause-others g c =
    λ i apart.
    sight_else c.self.inside.tokens.items c.args.index i c.hold.new.token apart ∙ ap (λ (v : ClerkView). row v.sights i) c.self.view_is

pub returns-clause-same : goal.returns-clause-same
returns-clause-same g c =
    let tokens = c.self.inside.tokens.items in
    let was = c.index_mut.result.now in
    let now = c.hold.new.token in
    let has = slice_get_read tokens g.H.Histories.shards c.args.index was (sym c.self.invariant.shards) c.requires.index c.index_mut.ensures.value in
    let kept = same_places tokens c.args.index was now has (ap (λ (k : TokenView). k.places) c.hold.ensures.token) ∙ ap (λ (v : ClerkView). v.places) c.self.view_is in
    λ i. record {
      seen = (ap (λ (v : ClerkView). v.seen) c.self.view_is) i;
      sights = sights_of (set tokens c.args.index now);
      places = kept i;
      receipts = (ap (λ (v : ClerkView). v.receipts) c.self.view_is) i;
      keeps = (ap (λ (v : ClerkView). v.keeps) c.self.view_is) i;
    }
