use Rattle.std.proofs.Common.{◌∙◌, ap}
use Rattle.nmvs_parts.specs.Part.{as_code}
use Rattle.nmvs_parts.proofs.LineCodes.{no-code}
use Rattle.nmvs_parts.proofs.part.code_in.Goals as goal

pub returns-in_default : goal.returns-in_default
returns-in_default c = no-code c.code_text.result.now c.in_default.ensures.cases.0 ∙ ap as_code c.code_text.ensures
