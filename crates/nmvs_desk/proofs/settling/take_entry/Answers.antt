use Rattle.std.proofs.Common.{◌<◌, arith, length, sym, subst, All}
use Rattle.std.proofs.lemmas.List.Elements.{All-cons}
use mathlib.Core.List.{IsPrefix}
use Rattle.nmvs_desk.specs.Closing.{unlocked}
use Rattle.nmvs_desk.specs.Trails.{IsKept}
use Rattle.nmvs_desk.specs.Views.{LockedView}
use Rattle.nmvs_desk.proofs.Lists.{first_and_rest, first_moved}
use Rattle.nmvs_desk.proofs.settling.take_entry.Goals as goal

pub loop-closings-preserved : goal.loop-closings-preserved
loop-closings-preserved g c =
    let l = c.loop-closings in
    let P : LockedView → Type 0 = IsKept g.H.Histories.shards in
    let Q : LockedView → Type 0 = λ h. IsPrefix (g.H.Histories.opening h.index) h.trail in
    let rest = c.remove.new.self.items in
    let h = c.remove.result in
    let out = c.into_unlocked.ensures in
    let some : 0 < length l.locked.items = omega (arith, c.remove.ensures.len, l.locked.ok.0) in
    let split = first_and_rest l.locked.items rest h some c.remove.ensures.value c.remove.ensures.items in (
      rw c.push_reserved.ensures.items (first_moved (unlocked g.H.Histories.tables g.H.Histories.opening) l.locked.items rest h l.closings.items _ _ some c.remove.ensures.value c.remove.ensures.items out.unlocked l.invariant.0),
      (λ all. l.invariant.1 (subst (λ t. All P t) (sym split) (All-cons P h rest out.kept all))),
      (λ all. l.invariant.2 (subst (λ t. All Q t) (sym split) (All-cons Q h rest out.opening all))),
      omega (arith, c.push_reserved.ensures.len, c.push_reserved.ensures.capacity, c.remove.ensures.len, l.invariant.3),
    )
