use Rattle.nmvs_rules.proofs.CourseLemmas.{kept-by-other, stays-unknown, born-known, moved-on}
use Rattle.nmvs_rules.proofs.laws.packs.course.Goals as goal

pub returns-clause-kept : goal.returns-clause-kept
returns-clause-kept c = kept-by-other

pub returns-clause-unknown : goal.returns-clause-unknown
returns-clause-unknown c = stays-unknown

pub returns-clause-born : goal.returns-clause-born
returns-clause-born c = born-known

pub returns-clause-moved : goal.returns-clause-moved
returns-clause-moved c = moved-on
