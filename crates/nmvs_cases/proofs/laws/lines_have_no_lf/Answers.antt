use Rattle.nmvs_cases.proofs.LfLemmas.{no-lf}
use Rattle.nmvs_cases.proofs.laws.lines_have_no_lf.Goals as goal

pub returns : goal.returns
returns c = no-lf
