use Rattle.std.proofs.Common.{sym, ◌∙◌}
use Rattle.nmvs_protocol.proofs.SessionSteps.{served, served_part, served_broken}
use Rattle.nmvs_messages.specs.Peers.{TakesFrom}
use Rattle.nmvs_protocol.proofs.serving.serve_read.Goals as goal

pub returns-then-is_write_fault : goal.returns-then-is_write_fault
returns-then-is_write_fault g c fed is within sound =
    let h = c.feed-fed.ensures fed is within in
    (served_part (TakesFrom g.D.Desk.takes c.args.from.now) g.D.Desk.releases g.D.Desk.moves c.feed-fed.result (sym c.is_write_fault.ensures ∙ c.if-is_write_fault.true) h.0, h.1)

pub returns-in-Ok : goal.returns-in-Ok
returns-in-Ok g c fed is within sound =
    let h = c.feed-fed.ensures fed is within in
    (served (TakesFrom g.D.Desk.takes c.args.from.now) g.D.Desk.releases g.D.Desk.moves c.feed-fed.result (sym c.is_write_fault.ensures ∙ c.if-is_write_fault.false) c.in-Ok.ensures.ok h.0, h.1)

pub returns-in-Err : goal.returns-in-Err
returns-in-Err g c fed is within sound =
    let h = c.feed-fed.ensures fed is within in
    (served_broken (TakesFrom g.D.Desk.takes c.args.from.now) g.D.Desk.releases g.D.Desk.moves c.feed-fed.result (sym c.is_write_fault.ensures ∙ c.if-is_write_fault.false) c.in-Err.ensures.err h.0, tt)
