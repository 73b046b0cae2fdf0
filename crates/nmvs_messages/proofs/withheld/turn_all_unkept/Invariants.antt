use Rattle.std.proofs.Common.{◌≡◌, map, take, drop, option_copied}
use Rattle.nmvs_messages.specs.Withheld.{answer_of, told_where}
use Rattle.nmvs_messages.proofs.withheld.turn_all_unkept.Given as goal

abbrev pub invariant-loop-withheld : goal.invariant-loop-withheld
invariant-loop-withheld l =
    let i = l.withheld-index in
    (map answer_of (take i l.list) ≡ map (told_where (option_copied l.fn.kept)) (take i l.fn.list)) × (drop i l.list ≡ drop i l.fn.list)
