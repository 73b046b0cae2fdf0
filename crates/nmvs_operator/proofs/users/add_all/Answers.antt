use Rattle.std.proofs.Common.{rules, arith, ap, [], ◌∷◌, length, length-append}
use Rattle.std.proofs.lemmas.List.{nil_from_length}
use Rattle.nmvs_stream.proofs.LinesOfPieces.{no_line, line_cut, left_cut}
use Rattle.nmvs_operator.proofs.UsersFile.{added_none, added_more, adds_all, stops_short, tells}
use Rattle.nmvs_operator.proofs.users.add_all.Goals as goal

pub loop-line-init : goal.loop-line-init
loop-line-init g c = (search rules, omega arith, added_none _ _)

pub returns-then-is_empty-clause-added : goal.returns-then-is_empty-clause-added
returns-then-is_empty-clause-added g c =
    let none = no_line [] c.loop-line.rest.now c.in_default.ensures.none in
    adds_all c.loop-line.invariant.2 none.0 none.1 (nil_from_length c.loop-line.rest.now (search rules))

pub returns-else-is_empty-clause-fault : goal.returns-else-is_empty-clause-fault
returns-else-is_empty-clause-fault g c =
    let none = no_line [] c.loop-line.rest.now c.in_default.ensures.none in
    stops_short c.loop-line.invariant.2 none.0 none.1 (search rules)

pub returns-in_err-add_line-clause-fault : goal.returns-in_err-add_line-clause-fault
returns-in_err-add_line-clause-fault g c =
    let told = tells c.in-Some.line.now c.in-Some.behind.now _ c.loop-line.invariant.2 (line_cut [] _ _ c.in-Some.ensures.cut c.in-Some.ensures.whole) c.in_err-add_line.ensures.unchanged in
    search (rules, told)

pub loop-line-preserved : goal.loop-line-preserved
loop-line-preserved g c =
    let inv = c.loop-line.invariant in
    let cut = c.in-Some.ensures in
    let added = c.in_ok-add_line.ensures.added in (
      search rules,
      omega (arith, inv.1, ap length cut.cut, length-append c.in-Some.line.now (10 ∷ c.in-Some.behind.now)),
      added_more c.in-Some.line.now c.in-Some.behind.now _ added.0 inv.2 (line_cut [] _ _ cut.cut cut.whole) (left_cut [] _ _ cut.cut cut.whole) added.1 added.2,
    )
