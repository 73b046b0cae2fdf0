use Rattle.std.proofs.Common.{◌≡◌, ◌+◌, length, map}
use Rattle.std.specs.Str.{bytes_eq}
use Rattle.nmvs_json.proofs.asked_kind.is_small.Given as goal

abbrev pub invariant-loop-name : goal.invariant-loop-name
invariant-loop-name l =
    bytes_eq l.name (map (λ b. b + 32) l.word) ≡ bytes_eq l.fn.name (map (λ b. b + 32) l.fn.word)

abbrev pub decreases-loop-name : goal.decreases-loop-name
decreases-loop-name l = length l.word
