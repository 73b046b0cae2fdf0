use Rattle.std.proofs.Common.{◌≡◌, ◌≤◌, ◌<◌, ◌∙◌, ◌+◌, ◌-◌, ◌++◌, ◌∷◌, [], List, ℕ, Some, None, true≢false, length, refl, sym, ap, subst, arith}
use Rattle.std.specs.Prelude.{IfNone, Option}
use Rattle.std.proofs.lemmas.List.{length-append}
use Rattle.nmvs_messages.specs.declared.end.End.{End}
use Rattle.nmvs_messages.specs.declared.end.End.TheVariants as ends
use Rattle.nmvs_stream.specs.InputLines.{lines_after, rest_after}
use Rattle.nmvs_stream.proofs.LinesOfPieces.{line_cut}
use Rattle.nmvs_protocol.proofs.SessionTelling.{no_quit_more, none_left}
use Rattle.nmvs_protocol.proofs.SessionSteps.{takes_none, took_line, takes_line, took_all, took_until, took_whole, took_rest, behind_line, some_bytes}
use Rattle.nmvs_messages.specs.Peers.{TakesFrom}
use Rattle.nmvs_protocol.proofs.session.Session.take.Goals as goal

-- (over plain numbers and lists, so that no tactic reads all that is known at a goal)
at_limit : (count limit most : ℕ) → count ≤ most → limit ≡ most → limit ≤ count → count ≡ most
at_limit count limit most within same reached = omega arith

some_line : (lines : List (List ℕ)) (line : List ℕ) (more : List (List ℕ)) → lines ≡ line ∷ more → 0 < length lines
some_line lines line more is = let n = ap (λ (l : List (List ℕ)). length l) is in omega arith

no_longer : (bytes left all : List ℕ) → bytes ++ left ≡ all → length left ≤ length all
no_longer bytes left all whole = let n = ap (λ (l : List ℕ). length l) whole in omega (arith, n, length-append bytes left)

at_most : (count all left : ℕ) → count ≡ all - left → count ≤ all
at_most count all left is = omega arith

ended : (end : Option End) (e : End) (count : ℕ) → end ≡ Some e → IfNone end (0 < count)
ended end e count is = subst (λ (o : Option End). IfNone o (0 < count)) (sym is) tt

pub loop-tail-init : goal.loop-tail-init
loop-tail-init g c = ([], refl, λ none. refl, λ begun is within. takes_none (TakesFrom g.D.Desk.takes c.args.from.now) c.args.self.now c.args.desk.now c.args.withheld.now begun is within)

pub push-requires : goal.push-requires
push-requires g c = c.is_full.ensures.room c.if-is_full.false

pub returns-then-self-clause-takes : goal.returns-then-self-clause-takes
returns-then-self-clause-takes g c begun is within =
    let inv = c.loop-tail.invariant in
    let k = inv.3 begun is within in
    let cut = line_cut (rest_after begun inv.0) c.in-Some.tail.now c.in-Some.behind.now c.in-Some.ensures.cut c.in-Some.ensures.whole in
    let until = c.taken_until.ensures in
    rw (until.list)
    (took_until (TakesFrom g.D.Desk.takes c.args.from.now) _ _ inv.1 until.bytes until.end
    (took_all (TakesFrom g.D.Desk.takes c.args.from.now) c.loop-tail.rest.now (Some ends.Limit) k
    (k.no_quit, record { reached = at_limit _ _ _ k.within k.limit c.if-self.true; more = some_line _ _ _ cut })))

pub returns-then-is_full-clause-takes : goal.returns-then-is_full-clause-takes
returns-then-is_full-clause-takes g c begun is within =
    let inv = c.loop-tail.invariant in
    let k = inv.3 begun is within in
    let until = c.taken_until-then-is_full.ensures in
    rw (until.list)
    (took_until (TakesFrom g.D.Desk.takes c.args.from.now) _ _ inv.1 until.bytes until.end (took_all (TakesFrom g.D.Desk.takes c.args.from.now) c.loop-tail.rest.now None k k.no_quit))

pub returns-then-quits-clause-takes : goal.returns-then-quits-clause-takes
returns-then-quits-clause-takes g c begun is within =
    let inv = c.loop-tail.invariant in
    let k = inv.3 begun is within in
    let took = c.take_tail-answer.ensures in
    let until = c.taken_until-then-quits.ensures in
    rw (until.list)
    (took_until (TakesFrom g.D.Desk.takes c.args.from.now) _ _ (behind_line inv.0 c.in-Some.tail.now c.in-Some.behind.now inv.1 c.in-Some.ensures.cut) until.bytes until.end
    (took_line (TakesFrom g.D.Desk.takes c.args.from.now) {end = Some ends.Quit} c.in-Some.tail.now c.in-Some.behind.now c.take_tail-answer.result.0 k c.if-self.false c.in-Some.ensures.whole
    (took.takes _ k.line) (ap (λ (n : ℕ). n + 1) took.counts.0) took.counts.1 took.begun c.push.ensures
    (record { before = lines_after begun inv.0; these = ap (λ (t : List ℕ). lines_after begun inv.0 ++ t ∷ []) ((took.quit _ k.line).0 c.if-quits.true); no_quit = k.no_quit })
    took.shows))

pub returns-then-is_long-clause-takes : goal.returns-then-is_long-clause-takes
returns-then-is_long-clause-takes g c begun is within =
    let inv = c.loop-tail.invariant in
    let k = inv.3 begun is within in
    let took = c.take_tail-answer.ensures in
    let until = c.taken_until-then-is_long.ensures in
    rw (until.list)
    (took_until (TakesFrom g.D.Desk.takes c.args.from.now) _ _ (behind_line inv.0 c.in-Some.tail.now c.in-Some.behind.now inv.1 c.in-Some.ensures.cut) until.bytes until.end
    (took_line (TakesFrom g.D.Desk.takes c.args.from.now) {end = None} c.in-Some.tail.now c.in-Some.behind.now c.take_tail-answer.result.0 k c.if-self.false c.in-Some.ensures.whole
    (took.takes _ k.line) (ap (λ (n : ℕ). n + 1) took.counts.0) took.counts.1 took.begun c.push.ensures
    (no_quit_more (lines_after begun inv.0) _ k.no_quit (λ e. absurd (true≢false (sym ((took.quit _ k.line).1 e) ∙ c.if-quits.false))))
    took.shows))

pub loop-tail-preserved : goal.loop-tail-preserved
loop-tail-preserved g c =
    let inv = c.loop-tail.invariant in
    let took = c.take_tail-answer.ensures in (
      inv.0 ++ (c.in-Some.tail.now ++ 10 ∷ []),
      behind_line inv.0 c.in-Some.tail.now c.in-Some.behind.now inv.1 c.in-Some.ensures.cut,
      λ none. absurd (some_bytes inv.0 c.in-Some.tail.now none),
      λ begun is within.
          let k = inv.3 begun is within in
          takes_line (TakesFrom g.D.Desk.takes c.args.from.now) c.in-Some.tail.now c.take_tail-answer.result.0 k c.if-self.false c.in-Some.ensures.whole
          (took.takes _ k.line) (ap (λ (n : ℕ). n + 1) took.counts.0) took.counts.1 took.begun c.push.ensures
          (λ e. absurd (true≢false (sym ((took.quit _ k.line).1 e) ∙ c.if-quits.false))) (took.shows ∙ none_left g.D.List.LineList.left c.take_tail-answer.result.1 (sym c.is_some.ensures ∙ c.if-is_some.false)),
    )

pub returns-clause-takes : goal.returns-clause-takes
returns-clause-takes g c begun is within =
    let inv = c.loop-tail.invariant in
    let k = inv.3 begun is within in
    took_whole (TakesFrom g.D.Desk.takes c.args.from.now) c.args.more.now inv.1
    (took_rest (TakesFrom g.D.Desk.takes c.args.from.now) c.loop-tail.rest.now k c.in_default.ensures.none c.extend.ensures refl refl)

pub taken_until-requires : goal.taken_until-requires
taken_until-requires g c = no_longer _ _ _ c.loop-tail.invariant.1

pub taken_until-requires-then-is_full : goal.taken_until-requires-then-is_full
taken_until-requires-then-is_full g c = no_longer _ _ _ c.loop-tail.invariant.1

pub taken_until-requires-then-quits : goal.taken_until-requires-then-quits
taken_until-requires-then-quits g c = no_longer _ _ _ (behind_line c.loop-tail.invariant.0 c.in-Some.tail.now c.in-Some.behind.now c.loop-tail.invariant.1 c.in-Some.ensures.cut)

pub taken_until-requires-then-is_long : goal.taken_until-requires-then-is_long
taken_until-requires-then-is_long g c = no_longer _ _ _ (behind_line c.loop-tail.invariant.0 c.in-Some.tail.now c.in-Some.behind.now c.loop-tail.invariant.1 c.in-Some.ensures.cut)

pub returns-then-self-clause-within : goal.returns-then-self-clause-within
returns-then-self-clause-within g c = at_most _ _ _ c.taken_until.ensures.bytes

pub returns-then-is_full-clause-within : goal.returns-then-is_full-clause-within
returns-then-is_full-clause-within g c = at_most _ _ _ c.taken_until-then-is_full.ensures.bytes

pub returns-then-quits-clause-within : goal.returns-then-quits-clause-within
returns-then-quits-clause-within g c = at_most _ _ _ c.taken_until-then-quits.ensures.bytes

pub returns-then-is_long-clause-within : goal.returns-then-is_long-clause-within
returns-then-is_long-clause-within g c = at_most _ _ _ c.taken_until-then-is_long.ensures.bytes

pub returns-then-self-clause-moves : goal.returns-then-self-clause-moves
returns-then-self-clause-moves g c some none = ended _ ends.Limit _ c.taken_until.ensures.end

pub returns-then-quits-clause-moves : goal.returns-then-quits-clause-moves
returns-then-quits-clause-moves g c some none = ended _ ends.Quit _ c.taken_until-then-quits.ensures.end
