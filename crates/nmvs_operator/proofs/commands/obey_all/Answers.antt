use Rattle.std.proofs.Common.{◌≡◌, List, ℕ, subst, sym, ◌∙◌}
use Rattle.nmvs_directory.specs.Registrar.{register_of}
use Rattle.nmvs_operator.specs.Commands.{office, ways, AnswersOrder}
use Rattle.nmvs_operator.proofs.CommandLemmas.{none_answered, one_more, one_stop, at_end, most_read}
use Rattle.nmvs_operator.proofs.commands.obey_all.Goals as goal

pub loop-init : goal.loop-init
loop-init g c = none_answered _ _ _ _

pub returns-then-obey_line : goal.returns-then-obey_line
returns-then-obey_line g c =
    let o = c.obey_line.ensures in
    let old = office (register_of c.loop.registrar) c.loop.latest c.loop.service in
    let new = office (register_of c.obey_line.new.registrar) c.obey_line.new.latest c.obey_line.new.service in
    let answers = subst (λ (t : List ℕ). AnswersOrder (ways g.S.Perform.does g.S.Service.keeps) old t o.0 new) c.as_slice-line.ensures o.1 in
    one_stop new (g.T.Sink.Sink.taken c.obey_line.new.sink) o.0 c.loop.invariant c.in-Ok.ensures answers o.2 (sym o.3 ∙ c.if-obey_line.true)

pub loop-preserved : goal.loop-preserved
loop-preserved g c =
    let o = c.obey_line.ensures in
    let old = office (register_of c.loop.registrar) c.loop.latest c.loop.service in
    let new = office (register_of c.obey_line.new.registrar) c.obey_line.new.latest c.obey_line.new.service in
    let answers = subst (λ (t : List ℕ). AnswersOrder (ways g.S.Perform.does g.S.Service.keeps) old t o.0 new) c.as_slice-line.ensures o.1 in
    one_more new (g.T.Sink.Sink.taken c.obey_line.new.sink) o.0 c.loop.invariant c.in-Ok.ensures answers o.2 (sym o.3 ∙ c.if-obey_line.false)

pub returns-in-Err : goal.returns-in-Err
returns-in-Err g c = at_end _ c.loop.invariant c.in-Err.ensures c.tell_unended.ensures

pub returns : goal.returns
returns g c = most_read c.loop-test.false c.loop.invariant
