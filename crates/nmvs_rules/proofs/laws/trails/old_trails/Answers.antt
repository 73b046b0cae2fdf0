use Rattle.nmvs_rules.proofs.OldTrails.{lawful-alike}
use Rattle.nmvs_rules.proofs.laws.trails.old_trails.Goals as goal

pub returns : goal.returns
returns c = lawful-alike
