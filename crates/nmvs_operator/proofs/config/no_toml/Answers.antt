use Rattle.std.proofs.Common.{arith, sym}
use Rattle.std.proofs.lemmas.Bool.{false≢true}
use Rattle.nmvs_operator.proofs.config.no_toml.Goals as goal

pub returns-in-Some : goal.returns-in-Some
returns-in-Some c =
    let told = c.in-Some.ensures in
    let within = c.requires.within in
    (λ memory. absurd (false≢true (sym (told.none.1 memory))), (c.in-Some.span.start, omega (arith, within.0, within.1, told.range.0), c.line_at.ensures))
