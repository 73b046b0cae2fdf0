use Rattle.std.proofs.Common.{◌<◌, arith, length}
use Rattle.std.proofs.lemmas.List.Elements.{All-push}
use Rattle.nmvs_desk.specs.Opening.{IsOpened}
use Rattle.nmvs_desk.specs.Views.{LockedView}
use Rattle.nmvs_desk.proofs.Lists.{back_moved}
use Rattle.nmvs_desk.proofs.settling.unlock_all.Goals as goal

pub loop-shards-preserved : goal.loop-shards-preserved
loop-shards-preserved g c =
    let l = c.loop-shards in
    let h = g.H.Histories in
    let out = c.into_locked.ensures in
    let some : 0 < length l.slots.items = omega (arith, c.remove.ensures.len, l.slots.ok.0) in (
      rw c.push_reserved.ensures.items (back_moved (λ (x : LockedView). x.index) l.shards.items c.into_locked.result l.slots.items c.remove.new.self.items c.remove.result _ some c.remove.ensures.value c.remove.ensures.items out.index l.invariant.0),
      rw c.push_reserved.ensures.items (All-push (IsOpened h.clerks) l.shards.items c.into_locked.result l.invariant.1 out.opened),
      omega (arith, c.push_reserved.ensures.len, c.push_reserved.ensures.capacity, c.remove.ensures.len, l.invariant.2),
      omega (arith, c.push_reserved.ensures.len, c.remove.ensures.len, c.remove.ensures.capacity, l.invariant.3),
    )
