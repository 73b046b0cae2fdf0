use Rattle.std.proofs.Common.{◌≡◌, ◌∙◌, [], sym}
use Rattle.std.proofs.lemmas.List.{append-nil}
use Rattle.nmvs_directory.proofs.window.Window.learn.Goals as goal

pub returns-then-not-covers-clause-told : goal.returns-then-not-covers-clause-told
returns-then-not-covers-clause-told g c =
    let same : c.args.notice.now ≡ c.again.result = sym (c.again.ensures ∙ c.history-then-not-covers.ensures) in
    ([], append-nil c.args.notice.now ∙ same)
