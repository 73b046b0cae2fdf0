use Rattle.std.proofs.Common.{Err, refl, ap}
use Rattle.json.specs.Value.{value_view}
use Rattle.nmvs_json.proofs.UniqueKeys.{no_value, repeated, some_value}
use Rattle.nmvs_json.proofs.question.value_in.Goals as goal

pub returns-in-Ok-clause-value : goal.returns-in-Ok-clause-value
returns-in-Ok-clause-value c = some_value c.args.text.now (value_view c.in-Ok.value) c.in-Ok.ensures.ok c.in-Ok.ensures.unique

pub returns-in-Err-Invalid-clause-fault : goal.returns-in-Err-Invalid-clause-fault
returns-in-Err-Invalid-clause-fault c = λ _. (refl, no_value c.args.text.now (c.in-Err-Invalid.ensures.invalid (ap Err c.in-Err-Invalid.field-0-is)))

pub returns-in-Err-DuplicateKey-clause-fault : goal.returns-in-Err-DuplicateKey-clause-fault
returns-in-Err-DuplicateKey-clause-fault c = λ _. (refl, repeated c.args.text.now (c.in-Err-DuplicateKey.ensures.duplicate (ap Err c.in-Err-DuplicateKey.field-0-is)))
