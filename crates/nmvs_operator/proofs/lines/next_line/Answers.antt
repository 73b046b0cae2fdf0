use Rattle.std.proofs.Common.{◌∙◌, ◌++◌, arith}
use Rattle.nmvs_operator.proofs.CommandLemmas.{byte_more}
use Rattle.nmvs_operator.proofs.lines.next_line.Goals as goal

pub loop-preserved : goal.loop-preserved
loop-preserved g c =
    let inv = c.loop.invariant in
    let gives = c.in-Ok.ensures.ok in
    let buffer = c.read.new.buffer in
    let more = byte_more _ buffer c.loop.line c.extend.new.self inv.0 c.in-Ok.field-0 (c.read.auto.buffer ∙ inv.6) c.in-Ok.field-0-test.1 gives c.if-byte-eq10.false inv.2 inv.1 inv.3 c.extend.ensures in
    (inv.0 ++ buffer, more.0, more.1, more.2, omega (arith, gives.reads, inv.4), omega (arith, c.loop-test.true), c.read.auto.buffer ∙ inv.6)
