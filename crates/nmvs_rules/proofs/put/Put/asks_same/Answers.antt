use Rattle.std.proofs.Common.{◌≡◌, ◌∙◌, ◌&&◌, true, false, sym, ap}
use Rattle.nmvs_rules.specs.Repeats.{same_actor, same_question}
use Rattle.nmvs_rules.proofs.RepeatLemmas.{derived-actor, derived-question}
use Rattle.nmvs_rules.proofs.put.Put.asks_same.Goals as goal

pub returns-then-eq : goal.returns-then-eq
returns-then-eq c =
    let q = c.args.self.now in
    let r = c.args.other.now in
    let actors : same_actor q.actor r.actor ≡ true = sym (derived-actor q.actor r.actor) ∙ sym c.eq.ensures ∙ c.if-eq.true in
    c.eq-then-eq.ensures ∙ derived-question q.question r.question ∙ ap (λ b. b && same_question q.question r.question) (sym actors)

pub returns-else-eq : goal.returns-else-eq
returns-else-eq c =
    let q = c.args.self.now in
    let r = c.args.other.now in
    let actors : same_actor q.actor r.actor ≡ false = sym (derived-actor q.actor r.actor) ∙ sym c.eq.ensures ∙ c.if-eq.false in
    c.if-eq.false ∙ ap (λ b. b && same_question q.question r.question) (sym actors)
