use Rattle.std.proofs.Common.{◌≡◌, ◌∙◌, ◌++◌, List, ℕ, ap, rules}
use Rattle.nmvs_messages.specs.PendingLines.{kept_part}
use Rattle.nmvs_messages.proofs.KeptLines.{kept_begun, kept_more, kept_twice}
use Rattle.nmvs_protocol.proofs.session.Session.take_tail.Goals as goal

pub returns-then-is_empty-clause-takes : goal.returns-then-is_empty-clause-takes
returns-then-is_empty-clause-takes g c begun is =
    c.take_line.ensures.takes (begun ++ c.args.tail.now) (kept_begun _ begun c.args.tail.now (search rules) is)

pub returns-then-is_empty-clause-quit : goal.returns-then-is_empty-clause-quit
returns-then-is_empty-clause-quit g c begun is =
    c.take_line.ensures.quit (begun ++ c.args.tail.now) (kept_begun _ begun c.args.tail.now (search rules) is)

pub returns-clause-takes : goal.returns-clause-takes
returns-clause-takes g c begun is =
    let tail = c.args.tail.now in
    let same : kept_part c.as_slice.result.now ≡ kept_part (begun ++ tail) =
    ap kept_part (c.as_slice.ensures ∙ c.extend.ensures) ∙ kept_twice (c.args.self.now.line ++ tail) ∙ ap (λ (t : List ℕ). kept_part (t ++ tail)) is ∙ kept_more begun tail in
    c.take_line-taken.ensures.takes (begun ++ tail) same

pub returns-clause-quit : goal.returns-clause-quit
returns-clause-quit g c begun is =
    let tail = c.args.tail.now in
    let same : kept_part c.as_slice.result.now ≡ kept_part (begun ++ tail) =
    ap kept_part (c.as_slice.ensures ∙ c.extend.ensures) ∙ kept_twice (c.args.self.now.line ++ tail) ∙ ap (λ (t : List ℕ). kept_part (t ++ tail)) is ∙ kept_more begun tail in
    c.take_line-taken.ensures.quit (begun ++ tail) same
