use Rattle.std.proofs.Common.{◌≡◌, ◌∙◌, ◌≤◌, ◌+◌, ◌++◌, ℕ, List, length, take, drop, sym, ap, subst, arith}
use Rattle.std.proofs.lemmas.List.{length-drop}
use Rattle.nmvs_messages.specs.Withheld.{text_left}
use Rattle.nmvs_connections.specs.Replies.{Replies, once_told}
use Rattle.nmvs_connections.proofs.RepliesSteps.{sent_more}
use Rattle.nmvs_connections.proofs.buffered_session.BufferedSession.advance.Goals as goal

pub invariant_of-self : goal.invariant_of-self
invariant_of-self g c =
    let is = c.self.inside in
    let listed = once_told is.waiting (text_left g.L.LineList.left is.list) in
    let unsent : c.args.self.now.unsent ≡ drop is.gone is.replies.bytes.items = sym (ap (λ t. t.unsent) c.self.view_is) in
    let fits : c.args.count ≤ length (drop is.gone is.replies.bytes.items) = subst (λ (l : List ℕ). c.args.count ≤ length l) unsent c.requires in
    let left = length-drop is.gone is.replies.bytes.items in
    let within = c.self.invariant.0 in
    let shown : c.unsent.result.now ≡ drop is.gone is.replies.bytes.items = c.unsent.ensures.bytes ∙ unsent in
    let sent = c.extended-sent.ensures ∙ ap (λ (t : List ℕ). is.sent.numbers ++ take c.args.count t) shown in (
      omega (arith, fits, left, within),
      c.self.invariant.1,
      subst (λ (t : List ℕ). Replies is.fed.numbers (t ++ listed) is.waiting is.end) (sym (ap (λ (t : List ℕ). t ++ drop (is.gone + c.args.count) is.replies.bytes.items) sent ∙ sent_more is.sent.numbers is.replies.bytes.items is.gone c.args.count)) c.self.invariant.2,
    )
