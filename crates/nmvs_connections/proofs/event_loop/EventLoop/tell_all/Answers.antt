use Rattle.std.proofs.Common.{◌≡◌, ◌∙◌, length}
use Rattle.nmvs_connections.proofs.TurnSteps.{releases_some}
use Rattle.nmvs_connections.proofs.event_loop.EventLoop.tell_all.Goals as goal

pub returns-clause-tells : goal.returns-clause-tells
returns-clause-tells g c =
    let r = c.release-released in
    let some : length c.args.withheld.now ≡ 0 → ⊥ = λ none. c.if-len-eq0.false (c.len.ensures ∙ none) in record {
      said = r.result;
      released = releases_some g.D.Desk.releases g.D.Desk.moves c.args.desk.now r.new.self c.args.withheld.now r.result some r.ensures.moves r.ensures.released;
      each = c.tell_each-2.ensures.tells;
    }
