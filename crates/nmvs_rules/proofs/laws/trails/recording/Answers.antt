use Rattle.std.proofs.Common.{refl}
use Rattle.nmvs_rules.proofs.laws.trails.recording.Goals as goal

pub returns : goal.returns
returns c = λ q r. (refl, refl)
