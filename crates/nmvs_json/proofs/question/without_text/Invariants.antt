use Rattle.std.proofs.Common.{◌≡◌, drop}
use Rattle.std.specs.Prelude.{find}
use Rattle.std.specs.Option.{is_none}
use Rattle.json.specs.Value.{value_view}
use Rattle.nmvs_json.specs.Questions.{text_of}
use Rattle.nmvs_json.specs.Refusals.{member_name}
use Rattle.nmvs_json.proofs.question.without_text.Given as goal

abbrev pub invariant-loop-member : goal.invariant-loop-member
invariant-loop-member l =
    find (λ member. is_none (text_of (member_name member) (value_view l.object))) (drop l.member-index l.members) ≡ find (λ member. is_none (text_of (member_name member) (value_view l.object))) l.members
