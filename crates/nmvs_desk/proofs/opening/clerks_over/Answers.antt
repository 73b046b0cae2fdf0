use Rattle.std.proofs.Common.{◌<◌, arith, length}
use Rattle.std.proofs.lemmas.List.Elements.{All-push}
use Rattle.nmvs_desk.specs.Opening.{AreNew, IsNew}
use Rattle.nmvs_desk.specs.Views.{ClerkView}
use Rattle.nmvs_desk.proofs.Clerks.{is_new}
use Rattle.nmvs_desk.proofs.Lists.{back_moved, first_holds, rest_all}
use Rattle.nmvs_desk.proofs.opening.clerks_over.Goals as goal

pub new-requires : goal.new-requires
new-requires g c =
    let l = c.loop-windows in
    let h = g.H.Histories in
    first_holds (λ tokens. AreNew h.tables h.shards h.opening h.shards tokens.items) l.sets.items c.remove.result (omega (arith, c.remove.ensures.len, l.sets.ok.0)) c.remove.ensures.value l.invariant.1

pub loop-windows-preserved : goal.loop-windows-preserved
loop-windows-preserved g c =
    let l = c.loop-windows in
    let h = g.H.Histories in
    let first = c.remove-window in
    let tokens = c.remove.result in
    let new = first_holds (λ tokens. AreNew h.tables h.shards h.opening h.shards tokens.items) l.sets.items tokens (omega (arith, c.remove.ensures.len, l.sets.ok.0)) c.remove.ensures.value l.invariant.1 in
    let some : 0 < length l.windows.items = omega (arith, first.ensures.len, l.windows.ok.0) in (
      rw c.push_reserved.ensures.items (back_moved (λ (x : ClerkView). x.seen) l.clerks.items c.new.result l.windows.items first.new.self.items first.result _ some first.ensures.value first.ensures.items c.new.ensures.seen l.invariant.0),
      rest_all (λ tokens. AreNew h.tables h.shards h.opening h.shards tokens.items) l.sets.items c.remove.new.self.items c.remove.ensures.items l.invariant.1,
      omega (arith, c.remove.ensures.len, first.ensures.len, l.invariant.2),
      rw c.push_reserved.ensures.items (All-push (IsNew h.shards h.opening) l.clerks.items c.new.result l.invariant.3 (is_new h.tables h.shards h.opening tokens.items c.new.result new c.new.ensures.receipts c.new.ensures.sights c.new.ensures.places)),
      omega (arith, c.push_reserved.ensures.len, c.push_reserved.ensures.capacity, first.ensures.len, l.invariant.4),
    )
