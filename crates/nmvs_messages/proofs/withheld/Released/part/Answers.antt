use Rattle.std.proofs.Common.{◌≡◌, ◌∙◌, ◌-◌, map, take, drop, ap, sym, arith}
use Rattle.std.proofs.lemmas.List.{take-map, drop-map, length-drop}
use Rattle.std.proofs.Math.Seq.{take-length}
use Rattle.nmvs_messages.specs.Withheld.{answer_of}
use Rattle.nmvs_messages.proofs.withheld.Released.part.Goals as goal

pub returns-clause-part : goal.returns-clause-part
returns-clause-part c =
    let all = c.self.inside.list.now in
    let first = c.args.first in
    let count = c.args.count in
    let zero : count - 0 ≡ count = omega arith in
    let cut : c.in_ok-list.list.now ≡ take count (drop first all) = c.in_ok-list.ensures.lookup.0.2 ∙ ap (λ n. take n c.in_ok-get.field-0.now) zero ∙ ap (take count) (c.in_ok-get.ensures.lookup.0.2 ∙ ap (λ n. take n (drop first all)) (sym (length-drop first all)) ∙ take-length (drop first all)) in
    ap (map answer_of) cut ∙ sym (ap (take count) (drop-map answer_of first all) ∙ take-map answer_of count (drop first all)) ∙ ap (λ l. take count (drop first l)) c.self.view_is
