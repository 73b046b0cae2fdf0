use Rattle.std.proofs.Common.{◌≢◌, ◌∙◌, ◌-◌, [], ℕ, List, sym, ap, subst, arith}
use Rattle.std.specs.Prelude.{Option, Some}
use Rattle.std.proofs.lemmas.List.Elements.{All-from_get_or}
use Rattle.nmvs_history.specs.Views.{ClosingView}
use Rattle.nmvs_rules.specs.declared.entry.Entry.{Entry}
use Rattle.nmvs_desk.specs.declared.settled.Owner.{Owner}
use Rattle.nmvs_desk.specs.Closing.{trails_of, seen_in, HaveShape, AreClosing}
use Rattle.nmvs_desk.specs.Settlement.{at, IsOwned, Rises}
use Rattle.nmvs_desk.specs.Trails.{AreTrails}
use Rattle.nmvs_desk.proofs.Closings.{closing_first, all_back}
use Rattle.nmvs_desk.proofs.Unlocking.{are_trails}
use Rattle.nmvs_desk.proofs.Whole.{seen_unlocked, are_back, are_apart, have_places, owned, blank_shape, blank_none}
use Rattle.nmvs_desk.proofs.settling.Taken.settle.Goals as goal

pub take_clerks-requires-clause-closing : goal.take_clerks-requires-clause-closing
take_clerks-requires-clause-closing g c =
    let h = g.H.Histories in
    let s = c.args.self in
    let first = closing_first s.locked.items s.numbered.1 h.tables h.opening h.clerks s.opened (omega (arith, c.requires.clerks)) in
    let seen = sym (ap seen_in c.take_entry.ensures.closings ∙ seen_unlocked h.tables h.opening s.locked.items) in
    let parts = ap (λ n. 9 - n) (sym c.requires.clerks.0) in
    subst (λ (p : List (List Entry) × (ℕ × List ClosingView)). AreClosing h.tables h.opening p.0 p.1.0 [] p.1.1) (λ i. (seen i, (parts i, sym c.take_entry.ensures.closings i))) first

pub close_all-requires-clause-back : goal.close_all-requires-clause-back
close_all-requires-clause-back g c = all_back g.H.Histories.tables _ _ _ c.take_clerks.new.closings.items c.take_clerks.ensures.closing

pub note_all-requires-clause-apart : goal.note_all-requires-clause-apart
note_all-requires-clause-apart g c =
    let h = g.H.Histories in
    let s = c.args.self in
    let locked = s.locked.items in
    let back = are_back h.tables h.shards h.opening locked c.args.clerks.items c.take_entry.new.closings.items c.take_clerks.new.closings.items c.close_all.new.shards.items c.take_clerks.new.receipts.items (omega (arith, s.locked.ok.0, s.numbered.0)) s.numbered.1
    c.take_entry.ensures.closings c.take_entry.ensures.opening c.take_clerks.ensures.closing c.take_clerks.ensures.settled c.take_clerks.ensures.receipts c.close_all.ensures.trails c.close_all.ensures.places in
    are_apart (trails_of locked) c.take_clerks.new.receipts.items back.whole

pub note_all-requires-clause-rising : goal.note_all-requires-clause-rising
note_all-requires-clause-rising g c =
    let h = g.H.Histories in
    let s = c.args.self in
    let locked = s.locked.items in
    let back = are_back h.tables h.shards h.opening locked c.args.clerks.items c.take_entry.new.closings.items c.take_clerks.new.closings.items c.close_all.new.shards.items c.take_clerks.new.receipts.items (omega (arith, s.locked.ok.0, s.numbered.0)) s.numbered.1
    c.take_entry.ensures.closings c.take_entry.ensures.opening c.take_clerks.ensures.closing c.take_clerks.ensures.settled c.take_clerks.ensures.receipts c.close_all.ensures.trails c.close_all.ensures.places in
    back.whole.rising

pub note_all-requires-clause-places : goal.note_all-requires-clause-places
note_all-requires-clause-places g c =
    let h = g.H.Histories in
    let s = c.args.self in
    let locked = s.locked.items in
    let back = are_back h.tables h.shards h.opening locked c.args.clerks.items c.take_entry.new.closings.items c.take_clerks.new.closings.items c.close_all.new.shards.items c.take_clerks.new.receipts.items (omega (arith, s.locked.ok.0, s.numbered.0)) s.numbered.1
    c.take_entry.ensures.closings c.take_entry.ensures.opening c.take_clerks.ensures.closing c.take_clerks.ensures.settled c.take_clerks.ensures.receipts c.close_all.ensures.trails c.close_all.ensures.places in
    let shape = subst (λ (os : List (List (Option Owner))). HaveShape os (trails_of locked)) (sym s.owners) (blank_shape (trails_of locked)) in
    have_places (trails_of locked) c.take_clerks.new.receipts.items back.whole s.settled.owners.items shape

pub returns-clause-owned : goal.returns-clause-owned
returns-clause-owned g c =
    let h = g.H.Histories in
    let s = c.args.self in
    let locked = s.locked.items in
    let back = are_back h.tables h.shards h.opening locked c.args.clerks.items c.take_entry.new.closings.items c.take_clerks.new.closings.items c.close_all.new.shards.items c.take_clerks.new.receipts.items (omega (arith, s.locked.ok.0, s.numbered.0)) s.numbered.1
    c.take_entry.ensures.closings c.take_entry.ensures.opening c.take_clerks.ensures.closing c.take_clerks.ensures.settled c.take_clerks.ensures.receipts c.close_all.ensures.trails c.close_all.ensures.places in
    let shape = subst (λ (os : List (List (Option Owner))). HaveShape os (trails_of locked)) (sym s.owners) (blank_shape (trails_of locked)) in
    let none = subst (λ (os : List (List (Option Owner))). (i j : ℕ) (o : Owner) → at os i j ≢ Some (Some o)) (sym s.owners) (blank_none (trails_of locked)) in
    subst (λ (ts : List (List Entry)). IsOwned ts c.take_clerks.new.receipts.items c.note_all.new.owners.items) (sym back.trails)
    (owned (trails_of locked) c.take_clerks.new.receipts.items back.whole s.settled.owners.items shape none c.note_all.new.owners.items c.note_all.ensures)

pub returns-clause-rising : goal.returns-clause-rising
returns-clause-rising g c =
    let h = g.H.Histories in
    let s = c.args.self in
    let locked = s.locked.items in
    let back = are_back h.tables h.shards h.opening locked c.args.clerks.items c.take_entry.new.closings.items c.take_clerks.new.closings.items c.close_all.new.shards.items c.take_clerks.new.receipts.items (omega (arith, s.locked.ok.0, s.numbered.0)) s.numbered.1
    c.take_entry.ensures.closings c.take_entry.ensures.opening c.take_clerks.ensures.closing c.take_clerks.ensures.settled c.take_clerks.ensures.receipts c.close_all.ensures.trails c.close_all.ensures.places in
    All-from_get_or Rises c.take_clerks.new.receipts.items [] (λ i within. back.whole.rising i)

pub returns-clause-trails : goal.returns-clause-trails
returns-clause-trails g c =
    let h = g.H.Histories in
    let s = c.args.self in
    let locked = s.locked.items in
    let back = are_back h.tables h.shards h.opening locked c.args.clerks.items c.take_entry.new.closings.items c.take_clerks.new.closings.items c.close_all.new.shards.items c.take_clerks.new.receipts.items (omega (arith, s.locked.ok.0, s.numbered.0)) s.numbered.1
    c.take_entry.ensures.closings c.take_entry.ensures.opening c.take_clerks.ensures.closing c.take_clerks.ensures.settled c.take_clerks.ensures.receipts c.close_all.ensures.trails c.close_all.ensures.places in
    subst (λ (ts : List (List Entry)). AreTrails h.shards ts) (sym back.trails) (are_trails h.shards locked (omega (arith, s.locked.ok.0, s.numbered.0)) c.take_entry.ensures.kept s.numbered.1)

pub returns-clause-divided : goal.returns-clause-divided
returns-clause-divided g c =
    let h = g.H.Histories in
    let s = c.args.self in
    let locked = s.locked.items in
    let back = are_back h.tables h.shards h.opening locked c.args.clerks.items c.take_entry.new.closings.items c.take_clerks.new.closings.items c.close_all.new.shards.items c.take_clerks.new.receipts.items (omega (arith, s.locked.ok.0, s.numbered.0)) s.numbered.1
    c.take_entry.ensures.closings c.take_entry.ensures.opening c.take_clerks.ensures.closing c.take_clerks.ensures.settled c.take_clerks.ensures.receipts c.close_all.ensures.trails c.close_all.ensures.places in
    back.divided

pub returns-clause-settled : goal.returns-clause-settled
returns-clause-settled g c =
    let h = g.H.Histories in
    let s = c.args.self in
    let locked = s.locked.items in
    let back = are_back h.tables h.shards h.opening locked c.args.clerks.items c.take_entry.new.closings.items c.take_clerks.new.closings.items c.close_all.new.shards.items c.take_clerks.new.receipts.items (omega (arith, s.locked.ok.0, s.numbered.0)) s.numbered.1
    c.take_entry.ensures.closings c.take_entry.ensures.opening c.take_clerks.ensures.closing c.take_clerks.ensures.settled c.take_clerks.ensures.receipts c.close_all.ensures.trails c.close_all.ensures.places in
    back.settled
