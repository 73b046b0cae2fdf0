use Rattle.std.proofs.Common.{◌≡◌, ◌++◌, map, length, string_bytes}
use Rattle.std.specs.Prelude.{option_map}
use Rattle.json.specs.Value.{value_view}
use Rattle.nmvs_json.specs.Questions.{preceded, texts_of}
use Rattle.nmvs_json.specs.Refusals.{member_name}
use Rattle.nmvs_json.proofs.question.push_texts.Given as goal

abbrev pub invariant-loop-rest : goal.invariant-loop-rest
invariant-loop-rest l =
    option_map (λ ts. string_bytes l.line ++ preceded ts) (texts_of (map member_name l.rest) (value_view l.object))
    ≡ option_map (λ ts. string_bytes l.fn.line ++ preceded ts) (texts_of (map member_name l.members) (value_view l.object))

abbrev pub decreases-loop-rest : goal.decreases-loop-rest
decreases-loop-rest l = length l.rest
