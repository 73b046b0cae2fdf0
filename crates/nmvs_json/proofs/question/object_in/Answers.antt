use Rattle.std.proofs.Common.{◌∙◌, Some, refl, sym, ap}
use Rattle.json.specs.Value.{value_view}
use Rattle.nmvs_json.specs.Questions.{as_object, value_in}
use Rattle.nmvs_json.proofs.Bodies.{no_object, object_of, object_same}
use Rattle.nmvs_json.proofs.question.object_in.Goals as goal

pub returns-in_default-clause-fault : goal.returns-in_default-clause-fault
returns-in_default-clause-fault c = λ _. (refl, no_object c.args.body.now c.in_default.ensures.cases.0)

pub returns-in-Object-clause-object : goal.returns-in-Object-clause-object
returns-in-Object-clause-object c =
    let is = c.in-Object.is in
    let text = c.in-Ok.ensures.cases in
    object_of c.args.body.now (Some (value_view c.in_ok-value.value)) text.1 (ap value_in (sym text.0) ∙ c.in_ok-value.ensures.value)
    ∙ ap (λ v. as_object (value_view v)) is ∙ object_same c.in-Object.field-0 ∙ ap (λ v. Some (value_view v)) (sym is)
