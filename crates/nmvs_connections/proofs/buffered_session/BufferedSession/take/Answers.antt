use Rattle.std.proofs.Common.{◌≡◌, ◌∙◌, ◌++◌, ◌-◌, ℕ, List, [], Option, None, length, take, drop, sym, ap, subst, arith}
use Rattle.std.proofs.lemmas.List.{append-nil, length-append}
use Rattle.nmvs_messages.specs.declared.withheld.Withheld.{Withheld}
use Rattle.nmvs_messages.specs.Peers.{TakesFrom}
use Rattle.nmvs_messages.specs.PendingLines.{kept_part}
use Rattle.nmvs_messages.specs.Withheld.{text_left}
use Rattle.nmvs_stream.specs.InputLines.{lines_after, unfinished_line}
use Rattle.nmvs_stream.proofs.LinesOfPieces.{rest_after-append}
use Rattle.nmvs_messages.specs.declared.end.End.{End}
use Rattle.nmvs_connections.specs.Replies.{Asked, Replies, GoesOn, once_told, while_waiting}
use Rattle.nmvs_connections.proofs.RepliesSteps.{taken_length, replies_taken, goes_on, halts_sound, none_listed, awaited_shows}
use Rattle.nmvs_connections.proofs.buffered_session.BufferedSession.take.Goals as goal

pub invariant_of-self : goal.invariant_of-self
invariant_of-self g c =
    let is = c.self.inside in
    let open_still : is.end ≡ None = ap (λ t. t.ended) c.self.view_is ∙ c.requires.goes_on in
    let none : is.waiting ≡ 0 = ap (λ t. t.waiting) c.self.view_is ∙ c.requires.told in
    let unlisted : once_told is.waiting (text_left g.L.LineList.left is.list) ≡ [] = ap (λ t. t.listed) c.self.view_is ∙ c.requires.listed in
    let text = is.sent.numbers ++ drop is.gone is.replies.bytes.items in
    let ready : GoesOn None is.session is.fed.numbers = subst (λ (o : Option End). GoesOn o is.session is.fed.numbers) open_still c.self.invariant.1 in
    let whole : text ++ once_told is.waiting (text_left g.L.LineList.left is.list) ≡ text = ap (λ (t : List ℕ). text ++ t) unlisted ∙ append-nil text in
    let replied : Replies is.fed.numbers text 0 None =
    subst (λ (t : List ℕ). Replies is.fed.numbers t 0 None) whole
    (subst (λ (n : ℕ). Replies is.fed.numbers (text ++ once_told is.waiting (text_left g.L.LineList.left is.list)) n None) none
    (subst (λ (o : Option End). Replies is.fed.numbers (text ++ once_told is.waiting (text_left g.L.LineList.left is.list)) is.waiting o) open_still c.self.invariant.2)) in
    let took = c.take-taking.ensures.takes (unfinished_line is.fed.numbers) ready.0 ready.1 in
    let bytes = take c.take-taking.result.bytes c.args.more.now in
    let lines = taken_length (TakesFrom g.D.Desk.takes c.args.from.now) _ _ _ _ took.answers in
    let grown = ap (λ (l : List Withheld). length l) took.behind ∙ length-append c.args.withheld.now took.held in
    let line = took.line ∙ ap kept_part (sym (rest_after-append [] is.fed.numbers bytes)) in
    let before = c.len-self-inside.ensures in
    let after = c.len.ensures in
    let count = c.len.result - c.len-self-inside.result in
    let many : length (lines_after (unfinished_line is.fed.numbers) bytes) ≡ count = omega (arith, lines, grown, before, after) in
    let held : length took.held ≡ count = omega (arith, grown, before, after) in
    let shown = text_left g.L.LineList.left c.take-taking.result.list in
    let now_whole : text ≡ text ++ once_told count shown = sym (ap (λ (t : List ℕ). text ++ t) (none_listed took.held count shown held took.none) ∙ append-nil text) in (
      c.self.invariant.0,
      subst (λ (t : List ℕ). GoesOn c.take-taking.result.end c.take-taking.new.self t) (sym c.extended.ensures) (goes_on c.take-taking.result.end c.take-taking.new.self (is.fed.numbers ++ bytes) is.session.limit line took.limit took.within),
      subst (λ (t : List ℕ). Replies t (text ++ once_told count shown) count c.take-taking.result.end) (sym c.extended.ensures)
          (subst (λ (t : List ℕ). Replies (is.fed.numbers ++ bytes) t count c.take-taking.result.end) now_whole
          (replies_taken is.fed.numbers bytes text c.take-taking.result.end _ _ _ _ replied took.halts many)),
    )

pub overflow_sub-self : goal.overflow_sub-self
overflow_sub-self g c =
    let is = c.self.inside in
    let open_still : is.end ≡ None = ap (λ t. t.ended) c.self.view_is ∙ c.requires.goes_on in
    let ready : GoesOn None is.session is.fed.numbers = subst (λ (o : Option End). GoesOn o is.session is.fed.numbers) open_still c.self.invariant.1 in
    let took = c.take-taking.ensures.takes (unfinished_line is.fed.numbers) ready.0 ready.1 in
    let grown = ap (λ (l : List Withheld). length l) took.behind ∙ length-append c.args.withheld.now took.held in
    let before = c.len-self-inside.ensures in
    let after = c.len.ensures in
    omega (arith, grown, before, after)

pub returns-clause-replies : goal.returns-clause-replies
returns-clause-replies g c =
    let is = c.self.inside in
    let open_still : is.end ≡ None = ap (λ t. t.ended) c.self.view_is ∙ c.requires.goes_on in
    let ready : GoesOn None is.session is.fed.numbers = subst (λ (o : Option End). GoesOn o is.session is.fed.numbers) open_still c.self.invariant.1 in
    let took = c.take-taking.ensures.takes (unfinished_line is.fed.numbers) ready.0 ready.1 in
    let grown = ap (λ (l : List Withheld). length l) took.behind ∙ length-append c.args.withheld.now took.held in
    let before = c.len-self-inside.ensures in
    let after = c.len.ensures in
    let count = c.len.result - c.len-self-inside.result in
    let held : length took.held ≡ count = omega (arith, grown, before, after) in
    let shown = text_left g.L.LineList.left c.take-taking.result.list in
    (ap (λ t. t.sent) c.self.view_is, ap (λ t. t.unsent) c.self.view_is, none_listed took.held count shown held took.none)

pub returns-clause-asks : goal.returns-clause-asks
returns-clause-asks g c =
    let is = c.self.inside in
    let open_still : is.end ≡ None = ap (λ t. t.ended) c.self.view_is ∙ c.requires.goes_on in
    let ready : GoesOn None is.session is.fed.numbers = subst (λ (o : Option End). GoesOn o is.session is.fed.numbers) open_still c.self.invariant.1 in
    let took = c.take-taking.ensures.takes (unfinished_line is.fed.numbers) ready.0 ready.1 in
    let bytes = take c.take-taking.result.bytes c.args.more.now in
    let grown = ap (λ (l : List Withheld). length l) took.behind ∙ length-append c.args.withheld.now took.held in
    let before = c.len-self-inside.ensures in
    let after = c.len.ensures in
    let count = c.len.result - c.len-self-inside.result in
    let held : length took.held ≡ count = omega (arith, grown, before, after) in
    let shown = text_left g.L.LineList.left c.take-taking.result.list in
    let fed : is.fed.numbers ≡ c.args.self.now.fed = ap (λ t. t.fed) c.self.view_is in
    subst (λ (f : List ℕ). Asked (TakesFrom g.D.Desk.takes c.args.from.now) f bytes c.args.desk.now c.take-taking.new.desk c.args.withheld.now c.take-taking.new.withheld count (while_waiting count shown)) fed
    (record { held = took.held; behind = took.behind; answers = took.answers; one = held; shows = awaited_shows took.held count shown held took.shows })

pub returns-clause-sound : goal.returns-clause-sound
returns-clause-sound g c =
    let is = c.self.inside in
    let open_still : is.end ≡ None = ap (λ t. t.ended) c.self.view_is ∙ c.requires.goes_on in
    let ready : GoesOn None is.session is.fed.numbers = subst (λ (o : Option End). GoesOn o is.session is.fed.numbers) open_still c.self.invariant.1 in
    let took = c.take-taking.ensures.takes (unfinished_line is.fed.numbers) ready.0 ready.1 in
    halts_sound c.take-taking.result.end _ _ _ _ _ took.halts
