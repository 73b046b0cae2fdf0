use Rattle.std.proofs.Common.{◌≡◌, ◌∙◌, ℕ, None, Some, refl, sym, ap}
use Rattle.slab.specs.Slab.{get, with_value}
use Rattle.nmvs_connections.proofs.ConnectionLemmas.{rests_later}
use Rattle.nmvs_connections.proofs.MemorySteps.{counted_set}
use Rattle.nmvs_connections.proofs.TurnSteps.{TellsOne, each_set, each_still}
use Rattle.nmvs_connections.proofs.event_loop.EventLoop.tell.Goals as goal

pub returns-in_default-clause-tells : goal.returns-in_default-clause-tells
returns-in_default-clause-tells g c = λ key connection there.
    let connections = c.args.self.now.connections in (
      connection,
      there,
      (
        λ same.
            let none : None ≡ get connections c.args.key = c.in_default.ensures.value in
            let here : get connections c.args.key ≡ Some connection = ap (λ (k : ℕ). get connections k) (sym same) ∙ there in
            let both : None ≡ Some connection = none ∙ here in
            absurd (cc),
        λ apart. refl,
      ),
    )

pub returns-clause-tells : goal.returns-clause-tells
returns-clause-tells g c =
    let connections = c.args.self.now.connections in
    each_still (TellsOne c.args.released.now c.args.key) connections (with_value connections c.args.key c.tell-next.new.self) c.go_on.new.self.connections
    (each_set (TellsOne c.args.released.now c.args.key) connections c.args.key c.in-Some.connection.now c.tell-next.new.self c.in-Some.ensures.value
    (λ same. (c.tell-next.ensures.tells, c.note_bytes.ensures, rests_later _ _ c.tell-next.ensures.rests), λ apart. absurd (apart refl)) (λ other a apart. (λ same. absurd (apart same), λ _. refl)))
    c.go_on.ensures.closes.1

pub returns-clause-counted : goal.returns-clause-counted
returns-clause-counted g c = λ counted.
    let next = c.tell-next in
    c.go_on.ensures.closes.2 (counted_set c.args.self.now.connections c.args.key c.in-Some.connection.now next.new.self c.args.self.now.memory c.in-Some.ensures.value next.ensures.memory counted)
