use Rattle.nmvs_json.proofs.Bodies.{no_tag}
use Rattle.nmvs_json.proofs.question.tag_of.Goals as goal

pub returns-in-Err-clause-none : goal.returns-in-Err-clause-none
returns-in-Err-clause-none c = no_tag c.args.key.now c.in-Err.ensures.cases.0
