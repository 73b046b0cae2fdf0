use Rattle.std.proofs.Common.{◌≡◌, ◌<◌, ◌+◌, ◌-◌, ◌++◌, ◌∷◌, ◌∙◌, [], ℕ, arith, length, refl, sym, ap, subst, All, List, append-nil, append_assoc}
use Rattle.std.proofs.lemmas.Bool.{eqb-true}
use Rattle.std.proofs.lemmas.List.{nil_from_length}
use Rattle.std.proofs.lemmas.List.Elements.{All-cons, All-nil}
use Rattle.nmvs_desk.specs.Closing.{seen_in, AreClosing}
use Rattle.nmvs_desk.specs.Settlement.{IsSettled}
use Rattle.nmvs_desk.specs.Views.{ClerkView}
use Rattle.nmvs_desk.proofs.Closings.{same_tables, closing_then, settled_then}
use Rattle.nmvs_desk.proofs.Lists.{first_and_rest, first_moved}
use Rattle.nmvs_desk.proofs.settling.take_clerks.Goals as goal

pub loop-clerks-init : goal.loop-clerks-init
loop-clerks-init g c = (
  rw c.requires.empty refl,
  ([], refl, c.requires.closing),
  (λ all. all),
  c.requires.shards,
  c.requires.few,
  omega (arith, c.requires.room, ap length c.requires.empty, c.args.receipts.now.ok.0),
)

pub take_tokens-requires-clause-many : goal.take_tokens-requires-clause-many
take_tokens-requires-clause-many g c =
    let l = c.loop-clerks in
    let parts = c.into_parts-tokens in
    omega (arith, parts.result.0.ok.0, parts.ensures.clerk.shards, l.invariant.3)

pub take_tokens-requires-clause-tables : goal.take_tokens-requires-clause-tables
take_tokens-requires-clause-tables g c =
    let l = c.loop-clerks in
    let h = g.H.Histories in
    let parts = c.into_parts-tokens in
    let closing = l.invariant.1.2 in
    same_tables h.tables h.opening h.shards _ _ _ l.closings.items closing parts.result.0.items parts.result.1.items parts.ensures.clerk

pub loop-clerks-preserved : goal.loop-clerks-preserved
loop-clerks-preserved g c =
    let l = c.loop-clerks in
    let h = g.H.Histories in
    let trails = seen_in c.args.closings.now.items in
    let parts = c.into_parts-tokens in
    let rest = c.remove.new.self.items in
    let clerk = c.remove.result in
    let done = l.invariant.1.0 in
    let closing = l.invariant.1.2 in
    let some : 0 < length l.clerks.items = omega (arith, c.remove.ensures.len, l.clerks.ok.0) in
    let split = first_and_rest l.clerks.items rest clerk some c.remove.ensures.value c.remove.ensures.items in
    let many : length l.closings.items ≡ h.shards = omega (arith, l.closings.ok.0, l.invariant.3) in
    let as_many : length c.take_tokens.new.closings.items ≡ length l.closings.items = omega (arith, c.take_tokens.new.closings.ok.0, c.take_tokens.ensures.many, l.closings.ok.0) in
    let more = closing_then h.tables h.opening h.shards trails _ done l.closings.items closing parts.result.0.items parts.result.1.items parts.ensures.clerk many c.take_tokens.new.closings.items as_many c.take_tokens.ensures.taken clerk parts.ensures.places in
    let settled = settled_then h.tables h.opening h.shards trails _ done l.closings.items closing parts.result.0.items parts.result.1.items parts.ensures.clerk many c.take_tokens.new.closings.items as_many c.take_tokens.ensures.taken clerk parts.ensures.sights parts.ensures.places parts.ensures.receipts in
    let P : ClerkView → Type 0 = IsSettled trails in
    let left : (9 - l.clerks.len) + 1 ≡ 9 - c.remove.new.self.len = omega (arith, c.remove.ensures.len, l.invariant.4) in (
      rw c.push_reserved.ensures.items (first_moved (λ (x : ClerkView). x.receipts) l.clerks.items rest clerk l.receipts.items _ _ some c.remove.ensures.value c.remove.ensures.items (c.new.ensures ∙ parts.ensures.receipts) l.invariant.0),
      (done ++ clerk ∷ [], append_assoc done (clerk ∷ []) rest ∙ ap (λ t. done ++ t) (sym split) ∙ l.invariant.1.1, subst (λ (n : ℕ). AreClosing h.tables h.opening trails n (done ++ clerk ∷ []) c.take_tokens.new.closings.items) left more),
      (λ all. l.invariant.2 (subst (λ t. All P t) (sym split) (All-cons P clerk rest settled all))),
      omega (arith, c.take_tokens.ensures.many, l.invariant.3),
      omega (arith, c.remove.ensures.len, l.invariant.4),
      omega (arith, c.push_reserved.ensures.len, c.push_reserved.ensures.capacity, c.remove.ensures.len, l.invariant.5),
    )

pub returns-clause-closing : goal.returns-clause-closing
returns-clause-closing g c =
    let l = c.loop-clerks in
    let h = g.H.Histories in
    let done = l.invariant.1.0 in
    let empty : l.clerks.len ≡ 0 = eqb-true _ 0 (sym c.loop-clerks-test.ensures) in
    let none : l.clerks.items ≡ [] = nil_from_length l.clerks.items (omega (arith, empty, l.clerks.ok.0)) in
    let all : done ≡ c.args.clerks.now.items = sym (append-nil done) ∙ ap (λ t. done ++ t) (sym none) ∙ l.invariant.1.1 in
    let parts : 9 - l.clerks.len ≡ 9 = omega (arith, empty) in
    subst (λ (p : ℕ × List ClerkView). AreClosing h.tables h.opening (seen_in c.args.closings.now.items) p.0 p.1 l.closings.items) (λ i. (parts i, all i)) l.invariant.1.2

pub returns-clause-settled : goal.returns-clause-settled
returns-clause-settled g c =
    let l = c.loop-clerks in
    let P : ClerkView → Type 0 = IsSettled (seen_in c.args.closings.now.items) in
    let none : l.clerks.items ≡ [] = nil_from_length l.clerks.items (omega (arith, eqb-true _ 0 (sym c.loop-clerks-test.ensures), l.clerks.ok.0)) in
    l.invariant.2 (subst (λ t. All P t) (sym none) (All-nil P))
