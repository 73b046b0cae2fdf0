use Rattle.std.proofs.Common.{◌≡◌, ◌+◌, ◌-◌, ℕ, arith, subst}
use Rattle.std.proofs.lemmas.List.Elements.{All-push}
use Rattle.nmvs_desk.specs.Opening.{AreLocked, AreNew}
use Rattle.nmvs_desk.proofs.opening.give_tokens.Goals as goal

pub tokens_of-requires : goal.tokens_of-requires
tokens_of-requires g c =
    let l = c.loop-clerk in
    let h = g.H.Histories in
    let one : 8 - l._clerk ≡ (8 - (l._clerk + 1)) + 1 = omega (arith, c.loop-clerk-test.true, c.loop-clerk.auto._clerk-end, c.requires.few) in
    (8 - (l._clerk + 1), subst (λ (n : ℕ). AreLocked n h.shards h.opening l.shards.items) one l.invariant.0)

pub loop-clerk-preserved : goal.loop-clerk-preserved
loop-clerk-preserved g c =
    let l = c.loop-clerk in
    let h = g.H.Histories in
    let one : 8 - l._clerk ≡ (8 - (l._clerk + 1)) + 1 = omega (arith, c.loop-clerk-test.true, c.loop-clerk.auto._clerk-end, c.requires.few) in
    let given = c.in_ok-tokens_of.ensures in (
      given.given (8 - (l._clerk + 1)) (subst (λ (n : ℕ). AreLocked n h.shards h.opening l.shards.items) one l.invariant.0),
      omega (arith, c.push_reserved.ensures.len, l.invariant.1),
      omega (arith, c.push_reserved.ensures.capacity, l.invariant.2),
      rw c.push_reserved.ensures.items (All-push (λ tokens. AreNew h.tables h.shards h.opening h.shards tokens.items) l.sets.items c.in_ok-tokens_of.field-0 l.invariant.3 given.new),
    )
