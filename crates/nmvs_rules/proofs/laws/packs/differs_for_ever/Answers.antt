use Rattle.nmvs_rules.proofs.PrintedLemmas.{differs-exactly, differs-later}
use Rattle.nmvs_rules.proofs.laws.packs.differs_for_ever.Goals as goal

pub returns-clause-exact : goal.returns-clause-exact
returns-clause-exact c = differs-exactly

pub returns-clause-later : goal.returns-clause-later
returns-clause-later c = differs-later
