use Rattle.std.proofs.Common.{◌≡◌, ◌<◌, arith, length, sym, subst, All, []}
use Rattle.std.proofs.lemmas.Bool.{eqb-true}
use Rattle.std.proofs.lemmas.List.{nil_from_length}
use Rattle.std.proofs.lemmas.List.Elements.{All-cons, All-nil}
use Rattle.nmvs_history.specs.Views.{ClosingView, AreBelow}
use Rattle.nmvs_desk.proofs.Lists.{first_and_rest, first_holds, first_moved, rest_all}
use Rattle.nmvs_desk.proofs.settling.close_all.Goals as goal

pub close-requires : goal.close-requires
close-requires g c =
    let l = c.loop-shards in
    let some : 0 < length l.closings.items = omega (arith, c.remove.ensures.len, l.closings.ok.0) in
    first_holds (λ (u : ClosingView). u.parts ≡ 9) l.closings.items c.remove.result some c.remove.ensures.value l.invariant.1

pub loop-shards-preserved : goal.loop-shards-preserved
loop-shards-preserved g c =
    let l = c.loop-shards in
    let Q : ClosingView → Type 0 = λ u. AreBelow (length u.seen) u.places in
    let rest = c.remove.new.self.items in
    let u = c.remove.result in
    let some : 0 < length l.closings.items = omega (arith, c.remove.ensures.len, l.closings.ok.0) in
    let split = first_and_rest l.closings.items rest u some c.remove.ensures.value c.remove.ensures.items in (
      rw c.push_reserved.ensures.items (first_moved (λ (x : ClosingView). x.seen) l.closings.items rest u l.shards.items _ _ some c.remove.ensures.value c.remove.ensures.items c.close.ensures.trail l.invariant.0),
      rest_all (λ (x : ClosingView). x.parts ≡ 9) l.closings.items rest c.remove.ensures.items l.invariant.1,
      (λ all. l.invariant.2 (subst (λ t. All Q t) (sym split) (All-cons Q u rest c.close.ensures.places all))),
      omega (arith, c.push_reserved.ensures.len, c.push_reserved.ensures.capacity, c.remove.ensures.len, l.invariant.3),
    )

pub returns-clause-places : goal.returns-clause-places
returns-clause-places g c =
    let l = c.loop-shards in
    let Q : ClosingView → Type 0 = λ u. AreBelow (length u.seen) u.places in
    let none : l.closings.items ≡ [] = nil_from_length l.closings.items (omega (arith, eqb-true _ 0 (sym c.loop-shards-test.ensures), l.closings.ok.0)) in
    l.invariant.2 (subst (λ t. All Q t) (sym none) (All-nil Q))
