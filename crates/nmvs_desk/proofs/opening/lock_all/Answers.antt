use Rattle.std.proofs.Common.{◌<◌, arith, length}
use Rattle.nmvs_desk.specs.Opening.{IsOpened}
use Rattle.nmvs_desk.specs.Views.{LockedView}
use Rattle.nmvs_desk.proofs.Lists.{first_holds, first_moved, rest_all}
use Rattle.nmvs_desk.proofs.opening.lock_all.Goals as goal

pub new-requires-clause-opened : goal.new-requires-clause-opened
new-requires-clause-opened g c =
    let l = c.loop-slots in
    let some : 0 < length l.shards.items = omega (arith, c.remove.ensures.len, l.shards.ok.0) in
    first_holds (IsOpened g.H.Histories.clerks) l.shards.items c.remove.result some c.remove.ensures.value l.invariant.2

pub loop-slots-preserved : goal.loop-slots-preserved
loop-slots-preserved g c =
    let l = c.loop-slots in
    let some : 0 < length l.shards.items = omega (arith, c.remove.ensures.len, l.shards.ok.0) in (
      rw c.push_reserved.ensures.items (first_moved (λ (h : LockedView). h.index) l.shards.items c.remove.new.self.items c.remove.result l.slots.items _ c.new.result some c.remove.ensures.value c.remove.ensures.items c.new.ensures l.invariant.0),
      rest_all (λ (h : LockedView). h.index < 8) l.shards.items c.remove.new.self.items c.remove.ensures.items l.invariant.1,
      rest_all (IsOpened g.H.Histories.clerks) l.shards.items c.remove.new.self.items c.remove.ensures.items l.invariant.2,
      omega (arith, c.push_reserved.ensures.len, c.push_reserved.ensures.capacity, c.remove.ensures.len, l.invariant.3),
    )
