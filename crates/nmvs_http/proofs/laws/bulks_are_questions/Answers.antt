use Rattle.nmvs_http.proofs.BulkLemmas.{answered_by_bodies, asked_by_lines}
use Rattle.nmvs_http.proofs.laws.bulks_are_questions.Goals as goal

pub returns-clause-lines : goal.returns-clause-lines
returns-clause-lines c = asked_by_lines

pub returns-clause-replies : goal.returns-clause-replies
returns-clause-replies c = answered_by_bodies
