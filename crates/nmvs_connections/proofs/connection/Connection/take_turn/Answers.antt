use Rattle.std.proofs.Common.{◌∙◌, ap}
use Rattle.nmvs_connections.proofs.ConnectionLemmas.{kept_same, kept_twice, later_then, rests_later, steps_kept, steps_later}
use Rattle.nmvs_connections.proofs.connection.Connection.take_turn.Goals as goal

pub returns-in_default-clause-steps : goal.returns-in_default-clause-steps
returns-in_default-clause-steps g c = steps_kept _ _ _ _ _ _ c.send.ensures.kept (rests_later _ _ c.send.ensures.rests)

pub returns-then-not-is_sent-clause-steps : goal.returns-then-not-is_sent-clause-steps
returns-then-not-is_sent-clause-steps g c = steps_kept _ _ _ _ _ _ c.send.ensures.kept (rests_later _ _ c.send.ensures.rests)

pub returns-then-is_listing-clause-steps : goal.returns-then-is_listing-clause-steps
returns-then-is_listing-clause-steps g c =
    steps_kept _ _ _ _ _ _ (kept_twice _ _ _ c.send.ensures.kept c.send_piece.ensures.kept)
    (later_then c.args.self.now.session c.send.new.self.session c.send_piece.new.self.session (rests_later _ _ c.send.ensures.rests) (rests_later _ _ c.send_piece.ensures.rests))

pub returns-clause-steps : goal.returns-clause-steps
returns-clause-steps g c =
    let same = c.exchange.ensures in
    let sent = c.send.ensures.rests in
    steps_later _ _ _ _ _ _ c.args.self.now.session c.exchange.new.self c.step.new.self.session (kept_twice _ _ _ c.send.ensures.kept (kept_same _ _ (ap (λ p. p.session) same)))
    (ap (λ p. p.proxy) same ∙ sent.0, ap (λ p. p.peer) same ∙ sent.1, ap (λ p. p.stream.received) same ∙ sent.2) c.step.ensures.steps
