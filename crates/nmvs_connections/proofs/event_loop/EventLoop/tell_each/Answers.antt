use Rattle.std.proofs.Common.{◌≡◌, ℕ, List, [], sym, ap, subst, arith, rules}
use Rattle.std.proofs.lemmas.Grind.{common_steps}
use Rattle.nmvs_connections.specs.Turns.{EachGoes}
use Rattle.nmvs_connections.proofs.TurnSteps.{ToldSoFar, told_all, told_more, told_none}
use Rattle.nmvs_connections.proofs.event_loop.EventLoop.tell_each.Goals as goal

pub loop-key-init : goal.loop-key-init
loop-key-init g c = (told_none c.args.released.now c.args.self.now.awaiting.items c.args.self.now.connections, λ counted. counted)

pub loop-key-preserved : goal.loop-key-preserved
loop-key-preserved g c =
    let said = c.args.released.now in
    let asked = c.args.self.now.awaiting.items in
    let connections = c.args.self.now.connections in
    let told =
    subst (λ (l : List ℕ). EachGoes (ToldSoFar said asked l) connections c.tell.new.self.connections) (sym (ap (λ v. v.items) c.tell.ensures.awaiting))
    (told_more said asked c.loop-key.self.awaiting.items c.pop.new.self.items c.in-Some.key connections c.loop-key.self.connections c.tell.new.self.connections c.in-Some.ensures.items c.loop-key.invariant.0 c.tell.ensures.tells) in
    (told, λ counted. c.tell.ensures.counted (c.loop-key.invariant.1 counted))

pub returns-clause-tells : goal.returns-clause-tells
returns-clause-tells g c =
    let none : c.loop-key.self.awaiting.items ≡ [] = first_of (search rules, grind (arith, common_steps)) in
    told_all c.args.released.now c.args.self.now.awaiting.items c.loop-key.self.awaiting.items c.args.self.now.connections c.loop-key.self.connections none c.loop-key.invariant.0
