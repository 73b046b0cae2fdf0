use Rattle.std.proofs.Common.{◌∙◌, ap, subst}
use Rattle.nmvs_connections.specs.Replies.{SessionState}
use Rattle.nmvs_connections.specs.Turns.{TellsOwn}
use Rattle.nmvs_connections.proofs.ConnectionLemmas.{tells_of}
use Rattle.nmvs_connections.proofs.peer_session.PeerSession.tell.Goals as goal

pub returns-then-is_none-clause-tells : goal.returns-then-is_none-clause-tells
returns-then-is_none-clause-tells g c =
    let e = c.tell.ensures in
    subst (λ (s : SessionState). TellsOwn c.args.released.now s c.tell.new.self) (c.exchange.ensures ∙ ap (λ p. p.session) c.self.view_is) (tells_of c.args.released.now c.exchange.new.self c.tell.new.self e.fed e.waits e.tells)

pub returns-clause-tells : goal.returns-clause-tells
returns-clause-tells g c =
    let e = c.tell.ensures in
    let told = subst (λ (s : SessionState). TellsOwn c.args.released.now s c.tell.new.self) (c.exchange.ensures ∙ ap (λ p. p.session) c.self.view_is) (tells_of c.args.released.now c.exchange.new.self c.tell.new.self e.fed e.waits e.tells) in
    rw (c.stop_serving.ensures.session) told
