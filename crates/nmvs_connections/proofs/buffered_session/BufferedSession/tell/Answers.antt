use Rattle.std.proofs.Common.{◌≡◌, ◌∙◌, ◌<◌, ◌++◌, ℕ, List, Option, cond, [], length, drop, sym, ap, subst, arith}
use Rattle.std.proofs.lemmas.List.{append-nil, append_assoc, length-append}
use Rattle.nmvs_messages.specs.declared.end.End.{End}
use Rattle.nmvs_messages.specs.Withheld.{text_left}
use Rattle.nmvs_connections.specs.Replies.{Replies, GoesOn, TellsPart, ended_by, is_replied, once_told, while_waiting}
use Rattle.nmvs_connections.proofs.RepliesSteps.{replies_worded, words_of, words_told, unsent_more, goes_on_told, told_first, waits_first}
use Rattle.nmvs_connections.proofs.buffered_session.BufferedSession.tell.Goals as goal

pub invariant_of-self : goal.invariant_of-self
invariant_of-self g c =
    let is = c.self.inside in
    let shown = text_left g.L.LineList.left is.list in
    let w = c.word_part-worded.ensures in
    let worded = c.word_part-worded.result in
    let old = is.replies.bytes.items in
    let new = c.word_part-worded.new.replies.bytes.items in
    let some : 0 < is.waiting = omega (arith, c.if-self-eq0.false) in
    let longer = ap (λ (l : List ℕ). length l) w.bytes in
    let both = length-append old w.text in
    let within = c.self.invariant.0 in
    let before = is.sent.numbers ++ drop is.gone old in
    let untold : before ++ once_told is.waiting shown ≡ before = ap (λ (t : List ℕ). before ++ t) (told_first is.waiting shown some) ∙ append-nil before in
    let replied = subst (λ (t : List ℕ). Replies is.fed.numbers t is.waiting is.end) untold c.self.invariant.2 in
    let told = replies_worded is.fed.numbers before shown is.first is.waiting c.args.released.now old new worded is.end some replied w in
    let text : before ++ words_of worded shown w.text ≡ (is.sent.numbers ++ drop is.gone new) ++ text_left g.L.LineList.left c.kept_list.result =
    sym (append_assoc before w.text (cond (is_replied worded) shown []))
    ∙ ap (λ (t : List ℕ). t ++ cond (is_replied worded) shown []) (append_assoc is.sent.numbers (drop is.gone old) w.text ∙ ap (λ (t : List ℕ). is.sent.numbers ++ t) (sym (unsent_more is.gone old new w.text within w.bytes)))
    ∙ ap (λ (t : List ℕ). (is.sent.numbers ++ drop is.gone new) ++ t) (sym (c.kept_list.ensures ∙ ap (λ (o : Option g.row.L.Denot). cond (is_replied worded) (text_left g.L.LineList.left o) []) c.take.ensures.value)) in
    let ended = sym c.kept_end-self-inside.ensures in (
      omega (arith, longer, both, within),
      subst (λ (e : Option End). GoesOn e is.session is.fed.numbers) ended (goes_on_told is.end worded is.session is.fed.numbers c.self.invariant.1),
      subst (λ (e : Option End). Replies is.fed.numbers ((is.sent.numbers ++ drop is.gone new) ++ text_left g.L.LineList.left c.kept_list.result) 0 e) ended
          (subst (λ (t : List ℕ). Replies is.fed.numbers t 0 (ended_by worded is.end)) text told),
    )

pub returns-clause-tells : goal.returns-clause-tells
returns-clause-tells g c =
    let is = c.self.inside in
    let left = g.L.LineList.left in
    let shown = text_left left is.list in
    let w = c.word_part-worded.ensures in
    let worded = c.word_part-worded.result in
    let old = is.replies.bytes.items in
    let new = c.word_part-worded.new.replies.bytes.items in
    let some : 0 < is.waiting = omega (arith, c.if-self-eq0.false) in
    let last = cond (is_replied worded) shown [] in
    let unsent = unsent_more is.gone old new w.text c.self.invariant.0 w.bytes in
    let kept : text_left left c.kept_list.result ≡ last = c.kept_list.ensures ∙ ap (λ (o : Option g.row.L.Denot). cond (is_replied worded) (text_left left o) []) c.take.ensures.value in
    let t = words_told is.first is.waiting c.args.released.now shown old new worded is.end w in
    let part : TellsPart is.first is.waiting c.args.released.now shown (words_of worded shown w.text) is.end (ended_by worded is.end) =
    record { untold = t.0; part = w.part; its_own = w.its_own; none = w.none; text_is = t.1; stays = t.2 } in
    rw (← c.self.view_is) (
      words_of worded shown w.text,
      (λ i. unsent i ++ kept i) ∙ append_assoc (drop is.gone old) w.text last
          ∙ ap (λ (x : List ℕ). x ++ (w.text ++ last)) (sym (ap (λ (x : List ℕ). drop is.gone old ++ x) (told_first is.waiting shown some) ∙ append-nil (drop is.gone old))),
      subst (λ (e : Option End). TellsPart is.first is.waiting c.args.released.now (while_waiting is.waiting shown) (words_of worded shown w.text) is.end e) (sym c.kept_end-self-inside.ensures)
          (subst (λ (x : List ℕ). TellsPart is.first is.waiting c.args.released.now x (words_of worded shown w.text) is.end (ended_by worded is.end)) (sym (waits_first is.waiting shown some)) part),
    )
