use Rattle.std.proofs.Common.{◌≡◌, ◌∙◌, ◌++◌, ℕ, List, Some, drop, length, refl, sym, ap, subst, arith}
use Rattle.std.proofs.lemmas.List.{length-append}
use Rattle.nmvs_messages.specs.Withheld.{text_left}
use Rattle.nmvs_connections.specs.Replies.{Replies, once_told}
use Rattle.nmvs_connections.proofs.RepliesSteps.{none_while, piece_more}
use Rattle.nmvs_connections.proofs.buffered_session.BufferedSession.more.Goals as goal

pub invariant_of-self-else-is_empty : goal.invariant_of-self-else-is_empty
invariant_of-self-else-is_empty g c =
    let is = c.self.inside in
    let left = g.L.LineList.left in
    let told : is.waiting ≡ 0 = ap (λ t. t.waiting) c.self.view_is ∙ c.requires.told in
    let piece = c.fetch.new.piece.text.items in
    let new = c.push_all.new.bytes.items in
    let bytes : new ≡ is.replies.bytes.items ++ piece =
    c.push_all.ensures ∙ ap (λ (t : List ℕ). t ++ c.as_slice.result.now) c.in_ok-reserve.ensures.items ∙ ap (λ (t : List ℕ). is.replies.bytes.items ++ t) c.as_slice.ensures.value in
    let was : text_left left is.list ≡ left c.in-Some.list = ap (λ o. text_left left o) c.in-Some.is in
    let longer = ap (λ (t : List ℕ). length t) bytes in
    let both = length-append is.replies.bytes.items piece in
    let within = c.self.invariant.0 in
    let whole : (is.sent.numbers ++ drop is.gone is.replies.bytes.items) ++ once_told is.waiting (text_left left is.list) ≡ (is.sent.numbers ++ drop is.gone new) ++ once_told is.waiting (text_left left (Some c.fetch.new.list)) =
    ap (λ (t : List ℕ). (is.sent.numbers ++ drop is.gone is.replies.bytes.items) ++ once_told is.waiting t) was
    ∙ sym (piece_more is.sent.numbers is.replies.bytes.items new piece (left c.in-Some.list) (left c.fetch.new.list) is.gone is.waiting within told bytes c.fetch.ensures.text) in (
      omega (arith, longer, both, within),
      c.self.invariant.1,
      subst (λ (t : List ℕ). Replies is.fed.numbers t is.waiting is.end) whole c.self.invariant.2,
    )

pub returns-else-is_empty-clause-kept : goal.returns-else-is_empty-clause-kept
returns-else-is_empty-clause-kept g c =
    let is = c.self.inside in
    let left = g.L.LineList.left in
    let told : is.waiting ≡ 0 = ap (λ t. t.waiting) c.self.view_is ∙ c.requires.told in
    let piece = c.fetch.new.piece.text.items in
    let new = c.push_all.new.bytes.items in
    let bytes : new ≡ is.replies.bytes.items ++ piece =
    c.push_all.ensures ∙ ap (λ (t : List ℕ). t ++ c.as_slice.result.now) c.in_ok-reserve.ensures.items ∙ ap (λ (t : List ℕ). is.replies.bytes.items ++ t) c.as_slice.ensures.value in
    let was : text_left left is.list ≡ left c.in-Some.list = ap (λ o. text_left left o) c.in-Some.is in
    let whole =
    piece_more is.sent.numbers is.replies.bytes.items new piece (left c.in-Some.list) (left c.fetch.new.list) is.gone is.waiting c.self.invariant.0 told bytes c.fetch.ensures.text
    ∙ ap (λ (t : List ℕ). (is.sent.numbers ++ drop is.gone is.replies.bytes.items) ++ once_told is.waiting t) (sym was) in
    rw (← c.self.view_is)
    (record {
      fed = refl;
      text = whole;
      ended = refl;
      first = refl;
      waiting = refl;
      awaited = none_while is.waiting (left c.fetch.new.list) (text_left left is.list) told;
    })
