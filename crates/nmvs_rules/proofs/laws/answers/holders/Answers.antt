use Rattle.nmvs_rules.proofs.HolderLemmas.{holder-uploads, holder-locks, holder-thefts}
use Rattle.nmvs_rules.proofs.laws.answers.holders.Goals as goal

pub returns-clause-uploads : goal.returns-clause-uploads
returns-clause-uploads c = holder-uploads

pub returns-clause-locks : goal.returns-clause-locks
returns-clause-locks c = holder-locks

pub returns-clause-thefts : goal.returns-clause-thefts
returns-clause-thefts c = holder-thefts
