use Rattle.std.proofs.Common.{◌∙◌, ◌++◌, List, ℕ, ap}
use Rattle.nmvs_json.specs.Replies.{comparison, comparison_member, first_word}
use Rattle.nmvs_json.proofs.ReplyLemmas.{five_put}
use Rattle.nmvs_json.proofs.reply.push_comparison.Goals as goal

pub returns : goal.returns
unfolding comparison_member
returns g c =
    let batch = c.comparison.ensures ∙ (λ i. comparison (c.text.ensures.text i) (c.cut_word.ensures.first i)) in
    let expiry = c.comparison-2.ensures ∙ (λ i. comparison ((c.as_str.ensures.value ∙ c.text-2.ensures.text) i) ((c.cut_word-2.ensures.first ∙ ap first_word c.cut_word.ensures.later) i)) in
    five_put c.extend_from_slice-5.result _ _ _ _ _ _ _ _ _ _ _ c.in_ok-extend_from_slice.ensures.items
    (c.in_ok-extend_from_slice-2.ensures.items ∙ ap (λ (t : List ℕ). c.extend_from_slice.new.self.items ++ t) batch) c.in_ok-extend_from_slice-3.ensures.items
    (c.in_ok-extend_from_slice-4.ensures.items ∙ ap (λ (t : List ℕ). c.extend_from_slice-3.new.self.items ++ t) expiry) c.extend_from_slice-5.ensures.items
