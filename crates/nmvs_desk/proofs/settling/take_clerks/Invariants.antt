use Rattle.std.specs.Prelude.{◌≡◌, ◌+◌, ◌-◌, ◌≤◌, ◌++◌, List, All, length, vec_len, vec_capacity}
use Rattle.nmvs_desk.specs.Closing.{seen_in, AreClosing}
use Rattle.nmvs_desk.specs.Settlement.{lists_of, IsSettled}
use Rattle.nmvs_desk.specs.Views.{ClerkView}
use Rattle.nmvs_desk.proofs.settling.take_clerks.Given as goal

abbrev pub invariant-loop-clerks : goal.invariant-loop-clerks
invariant-loop-clerks g l =
    let h = g.H.Histories in
    let trails = seen_in l.initial.closings.items in
    (l.receipts.items ++ lists_of l.clerks.items ≡ lists_of l.initial.clerks.items)
    × ((done : List ClerkView) × (done ++ l.clerks.items ≡ l.initial.clerks.items) × AreClosing h.tables h.opening trails (9 - vec_len l.clerks) done l.closings.items)
    × (All (IsSettled trails) l.clerks.items → All (IsSettled trails) l.initial.clerks.items)
    × (vec_len l.closings ≡ h.shards) × (vec_len l.clerks ≤ 8)
    × (vec_len l.receipts + vec_len l.clerks ≤ vec_capacity l.receipts)

abbrev pub decreases-loop-clerks : goal.decreases-loop-clerks
decreases-loop-clerks g l = length l.clerks.items
