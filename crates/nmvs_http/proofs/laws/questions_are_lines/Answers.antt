use Rattle.nmvs_http.proofs.OneLineLemmas.{asked_by_one_line}
use Rattle.nmvs_http.proofs.laws.questions_are_lines.Goals as goal

pub returns : goal.returns
returns c = asked_by_one_line
