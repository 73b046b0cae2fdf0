use Rattle.std.proofs.Common.{◌≡◌, ◌++◌, ◌∷◌, length, map}
use Rattle.nmvs_words.specs.Words.{spaced, followed}
use Rattle.nmvs_protocol.proofs.replies.push_words.Given as goal

abbrev pub invariant-loop-rest : goal.invariant-loop-rest
invariant-loop-rest l =
    l.line.bytes ++ followed (map (λ w. w.now) l.rest) ≡ spaced (l.fn.first ∷ map (λ w. w.now) l.fn.others)

abbrev pub decreases-loop-rest : goal.decreases-loop-rest
decreases-loop-rest l = length l.rest
