use Rattle.nmvs_directory.specs.Registrar.{published}
use Rattle.nmvs_operator.proofs.ReloadLemmas.{no_fault, next_faults, taken_none, taken_more, skipped_more, taken_all}
use Rattle.nmvs_operator.proofs.reload.lines_in_effect.Goals as goal

pub loop-line-init : goal.loop-line-init
loop-line-init g c = rw c.new-lines.ensures.items (taken_none c.args.all (published c.args.registrar.now) c.args.file.now c.requires.faultless)

pub line_takes_effect-requires : goal.line_takes_effect-requires
line_takes_effect-requires g c =
    let cut = c.in-Some.ensures in
    record { faultless = no_fault c.loop-line.invariant.number c.in-Some.line.now (next_faults c.in-Some.line.now c.in-Some.behind.now c.loop-line.invariant cut.cut cut.whole).0 }

pub loop-line-preserved-in_ok-push_line : goal.loop-line-preserved-in_ok-push_line
loop-line-preserved-in_ok-push_line g c =
    let cut = c.in-Some.ensures in
    taken_more c.in-Some.line.now c.in-Some.behind.now c.push_line.new.lines.items c.line_takes_effect.result c.if-line_takes_effect.true c.loop-line.invariant cut.cut cut.whole c.line_takes_effect.ensures c.in_ok-push_line.ensures

pub loop-line-preserved : goal.loop-line-preserved
loop-line-preserved g c =
    let cut = c.in-Some.ensures in
    skipped_more c.in-Some.line.now c.in-Some.behind.now c.line_takes_effect.result c.if-line_takes_effect.false c.loop-line.invariant cut.cut cut.whole c.line_takes_effect.ensures

pub returns : goal.returns
returns g c = taken_all c.loop-line.invariant c.in_default.ensures.none
