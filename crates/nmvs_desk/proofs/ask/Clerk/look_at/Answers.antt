use Rattle.std.proofs.Common.{◌∙◌, ℕ, List, set, refl, sym, ap, subst, arith}
use Rattle.std.proofs.lemmas.Option.{slice_get_read}
use Rattle.nmvs_history.specs.Views.{TokenView}
use Rattle.nmvs_rules.specs.declared.entry.Entry.{Entry}
use Rattle.nmvs_desk.specs.Answers.{IsShown}
use Rattle.nmvs_desk.specs.Settlement.{row}
use Rattle.nmvs_desk.specs.Views.{ClerkView, sights_of}
use Rattle.nmvs_desk.proofs.Asked.{looked, same_places, shown_then, sight_else, sight_of}
use Rattle.nmvs_desk.proofs.Lists.{set_same}
use Rattle.nmvs_desk.proofs.ask.Clerk.look_at.Goals as goal

pub index_mut-requires : goal.index_mut-requires
index_mut-requires g c = omega (arith, c.self.inside.tokens.ok.0, c.self.invariant.shards, c.requires)

pub look-requires : goal.look-requires
look-requires g c κs =
    let is = c.self.invariant in
    let was = c.index_mut.result.now in
    let has = slice_get_read c.self.inside.tokens.items g.H.Histories.shards c.args.index was (sym is.shards) c.requires c.index_mut.ensures.value in
    ((refl, tt), (is.each c.args.index was has).table ∙ ap g.H.Histories.tables (sym c.slot.ensures))

pub invariant_of-self : goal.invariant_of-self
invariant_of-self g c =
    let h = g.H.Histories in
    let is = c.self.invariant in
    let was = c.index_mut.result.now in
    let tokens = c.self.inside.tokens.items in
    let has = slice_get_read tokens h.shards c.args.index was (sym is.shards) c.requires c.index_mut.ensures.value in
    looked h.tables h.shards tokens c.self.inside.receipts.items is c.args.index was c.look.new.token has (subst (λ (i : ℕ). IsShown g.H.Histories.shards i was.seen c.look.new.token.seen) c.slot.ensures c.look.ensures.shown) c.look.ensures.token

pub returns-clause-shown : goal.returns-clause-shown
returns-clause-shown g c =
    let h = g.H.Histories in
    let is = c.self.invariant in
    let was = c.index_mut.result.now in
    let tokens = c.self.inside.tokens.items in
    let has = slice_get_read tokens h.shards c.args.index was (sym is.shards) c.requires c.index_mut.ensures.value in
    let then = shown_then h.tables h.shards tokens c.self.inside.receipts.items is c.args.index was c.look.new.token has (subst (λ (i : ℕ). IsShown g.H.Histories.shards i was.seen c.look.new.token.seen) c.slot.ensures c.look.ensures.shown) c.look.ensures.token in
    subst (λ (s : List (List Entry)). IsShown h.shards c.args.index (row s c.args.index) (row (sights_of (set tokens c.args.index c.look.new.token)) c.args.index)) (ap (λ (v : ClerkView). v.sights) c.self.view_is) then

pub returns-clause-tells : goal.returns-clause-tells
returns-clause-tells g c =
    let tokens = c.self.inside.tokens.items in
    let now = c.look.new.token in
    let there = sight_of (set tokens c.args.index now) c.args.index now (set_same tokens c.args.index now (omega (arith, c.self.invariant.shards, c.requires))) in
    subst (λ t. g.F.Reader.tells c.args.reader t c.look.result) (sym there) c.look.ensures.tells

pub returns-clause-others : goal.returns-clause-others
returns-clause-others g c =
    λ i apart.
    sight_else c.self.inside.tokens.items c.args.index i c.look.new.token apart ∙ ap (λ (v : ClerkView). row v.sights i) c.self.view_is

pub returns-clause-same : goal.returns-clause-same
returns-clause-same g c =
    let tokens = c.self.inside.tokens.items in
    let was = c.index_mut.result.now in
    let now = c.look.new.token in
    let has = slice_get_read tokens g.H.Histories.shards c.args.index was (sym c.self.invariant.shards) c.requires c.index_mut.ensures.value in
    let kept = same_places tokens c.args.index was now has (ap (λ (k : TokenView). k.places) c.look.ensures.token) ∙ ap (λ (v : ClerkView). v.places) c.self.view_is in
    λ i. record {
      seen = (ap (λ (v : ClerkView). v.seen) c.self.view_is) i;
      sights = sights_of (set tokens c.args.index now);
      places = kept i;
      receipts = (ap (λ (v : ClerkView). v.receipts) c.self.view_is) i;
      keeps = (ap (λ (v : ClerkView). v.keeps) c.self.view_is) i;
    }
