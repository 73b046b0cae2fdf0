use Rattle.std.proofs.Common.{◌∙◌, ◌++◌, [], take, refl, sym, arith}
use Rattle.nmvs_stream.specs.InputLines.{rest_after, unfinished_line}
use Rattle.nmvs_protocol.proofs.SessionSteps.{took_first, ahead_none, ahead_more, feed_broken, feed_halted, feed_all, whole_cut, whole_left}
use Rattle.nmvs_messages.specs.Peers.{TakesFrom}
use Rattle.nmvs_protocol.proofs.session.Session.feed.Goals as goal

pub loop-rest-init : goal.loop-rest-init
loop-rest-init g c =
    (c.clear.ensures, [], refl, λ fed is within. ahead_none (TakesFrom g.D.Desk.takes c.args.from.now) g.D.Desk.releases g.D.Desk.moves c.args.self.now c.args.desk.now (g.W.Sink.taken c.args.sink.now) (unfinished_line fed) within is)

pub returns-in-Some : goal.returns-in-Some
returns-in-Some g c fed is within =
    let inv = c.loop-rest.invariant in
    let a = inv.3 fed is within in
    let t = took_first (TakesFrom g.D.Desk.takes c.args.from.now) inv.0 (c.take-taking.ensures.takes (rest_after (unfinished_line fed) inv.1) a.line (omega (arith, a.told.within, a.limit))) in
    (feed_broken (TakesFrom g.D.Desk.takes c.args.from.now) g.D.Desk.releases g.D.Desk.moves _ _ c.args.more.now c.in-Some.end a t c.in-Some.ensures.tells (whole_cut c.take-taking.result.bytes inv.1 c.loop-rest.rest.now inv.2), tt)

pub returns-in-Some-end : goal.returns-in-Some-end
returns-in-Some-end g c fed is within =
    let inv = c.loop-rest.invariant in
    let a = inv.3 fed is within in
    let t = took_first (TakesFrom g.D.Desk.takes c.args.from.now) inv.0 (c.take-taking.ensures.takes (rest_after (unfinished_line fed) inv.1) a.line (omega (arith, a.told.within, a.limit))) in
    (feed_halted (TakesFrom g.D.Desk.takes c.args.from.now) g.D.Desk.releases g.D.Desk.moves _ _ c.args.more.now c.in-Some-end.end a t c.in-Some-end.is c.in-None.ensures.tells (whole_cut c.take-taking.result.bytes inv.1 c.loop-rest.rest.now inv.2), tt)

pub loop-rest-preserved : goal.loop-rest-preserved
loop-rest-preserved g c =
    let inv = c.loop-rest.invariant in (
      c.in-None.ensures.none_withheld,
      inv.1 ++ take c.take-taking.result.bytes c.loop-rest.rest.now,
      whole_left c.take-taking.result.bytes inv.1 c.loop-rest.rest.now inv.2,
      λ fed is within.
          let a = inv.3 fed is within in
          let t = took_first (TakesFrom g.D.Desk.takes c.args.from.now) inv.0 (c.take-taking.ensures.takes (rest_after (unfinished_line fed) inv.1) a.line (omega (arith, a.told.within, a.limit))) in
          ahead_more (TakesFrom g.D.Desk.takes c.args.from.now) g.D.Desk.releases g.D.Desk.moves _ _ a t c.in-None-end.is c.in-None.ensures.tells,
    )

pub returns : goal.returns
returns g c fed is within =
    let inv = c.loop-rest.invariant in
    feed_all (TakesFrom g.D.Desk.takes c.args.from.now) g.D.Desk.releases g.D.Desk.moves fed c.loop-rest.rest.now c.args.more.now (inv.3 fed is within) inv.2 (sym c.is_empty.ensures ∙ c.loop-rest-test.false)
