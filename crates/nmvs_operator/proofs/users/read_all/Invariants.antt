use Rattle.std.proofs.Common.{◌≡◌, ◌+◌, ◌≤◌, ◌++◌, false}
use Rattle.nmvs_operator.proofs.users.read_all.Given as goal

abbrev pub invariant-loop : goal.invariant-loop
invariant-loop g l =
    let told = g.S.Source.told in
    ((told l.source).bytes ≡ (told l.fn.source).bytes ++ l.bytes.items)
    × ((told l.source).reads ≡ (told l.fn.source).reads + l.counter)
    × ((told l.source).ended ≡ false)
    × (l.counter ≤ l.reads)
