use Rattle.std.proofs.Common.{◌≡◌, ◌∙◌, [], ap, arith}
use Rattle.nmvs_connections.proofs.RepliesSteps.{nothing_fed}
use Rattle.nmvs_connections.proofs.buffered_session.BufferedSession.new.Goals as goal

pub invariant_of-result : goal.invariant_of-result
invariant_of-result g c =
    let bytes : c.new-3.result.bytes.items ≡ [] = ap (λ v. v.items) c.new-3.ensures ∙ c.new-2.ensures.items in
    let within = c.new.ensures.answered in
    let nothing = nothing_fed c.new.result c.new.ensures.line (omega (arith, within)) _ _ _ c.empty.ensures c.empty-2.ensures bytes in
    (omega arith, nothing.0, nothing.1)
