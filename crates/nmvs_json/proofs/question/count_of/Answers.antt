use Rattle.std.proofs.Common.{◌≡◌, ◌∙◌, length, ap, arith}
use Rattle.json.specs.Value.{value_view}
use Rattle.nmvs_json.specs.Questions.{count_of}
use Rattle.nmvs_json.proofs.Bodies.{object_count}
use Rattle.nmvs_json.proofs.question.count_of.Goals as goal

pub returns-in-Object : goal.returns-in-Object
returns-in-Object c =
    let items = c.in-Object.members in
    let counted : count_of (value_view c.args.object.now) ≡ length items.items = ap (λ v. count_of (value_view v)) c.in-Object.is ∙ object_count items in
    let many = items.ok.0 in omega (arith, counted, many, c.len.ensures)
