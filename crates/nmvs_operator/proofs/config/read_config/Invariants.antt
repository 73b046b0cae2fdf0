use Rattle.std.proofs.Common.{◌≡◌, ◌-◌, ◌++◌, false, vec_len}
use Rattle.nmvs_operator.proofs.config.read_config.Given as goal

abbrev pub invariant-loop-buffer : goal.invariant-loop-buffer
invariant-loop-buffer g l =
    let told = g.S.Source.told in
    ((told l.source).bytes ≡ (told l.fn.source).bytes ++ l.bytes.items) × ((told l.source).ended ≡ false)

abbrev pub decreases-loop-buffer : goal.decreases-loop-buffer
decreases-loop-buffer g l = 65537 - vec_len l.bytes
