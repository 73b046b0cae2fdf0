use Rattle.std.proofs.Common.{◌≡◌, length, map, string_bytes}
use Rattle.nmvs_operator.specs.Config.{config_file}
use Rattle.nmvs_operator.proofs.config.config_path.Given as goal

abbrev pub invariant-loop-rest : goal.invariant-loop-rest
invariant-loop-rest l = config_file (map string_bytes l.words) ≡ config_file (map string_bytes l.rest)

abbrev pub decreases-loop-rest : goal.decreases-loop-rest
decreases-loop-rest l = length l.rest
