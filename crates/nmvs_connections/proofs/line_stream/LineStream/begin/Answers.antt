use Rattle.std.proofs.Common.{◌≡◌, ◌∙◌, ◌++◌, List, ℕ, [], refl, subst, sym, ap}
use Rattle.std.proofs.lemmas.List.{append-nil}
use Rattle.nmvs_connections.specs.declared.line_stream.Http.{Http}
use Rattle.nmvs_connections.specs.LineStreams.{IsFed}
use Rattle.nmvs_connections.proofs.line_stream.LineStream.begin.Goals as goal

pub invariant_of-self : goal.invariant_of-self
invariant_of-self c =
    let raw = c.self.inside.stream in
    let silent : raw.sent ≡ [] = ap (λ s. s.raw.sent) c.self.view_is ∙ c.requires.silent in
    let received : c.received.result.numbers ++ (c.new.result.stream.fed ++ []) ≡ raw.received =
    ap (λ (f : List ℕ). c.received.result.numbers ++ (f ++ [])) (ap (λ k. k.stream.fed) c.new.ensures) ∙ append-nil c.received.result.numbers ∙ c.received.ensures in
    subst (λ (h : Http). IsFed raw h) (sym c.in-Ok.ensures.ok) (record {
      rest = [];
      received_is = sym received;
      all = λ _. refl;
      sent_is = silent ∙ sym (ap (λ k. k.sent) c.new.ensures);
    })
