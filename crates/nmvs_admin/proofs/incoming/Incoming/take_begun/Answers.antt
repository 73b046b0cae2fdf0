use Rattle.std.proofs.Common.{◌∙◌, sym, ap}
use Rattle.nmvs_messages.specs.PendingLines.{kept_part}
use Rattle.nmvs_admin.proofs.IncomingLemmas.{all_begun}
use Rattle.nmvs_admin.proofs.incoming.Incoming.take_begun.Goals as goal

pub returns-clause-begun : goal.returns-clause-begun
returns-clause-begun c sent handed w none =
    c.replace.ensures.value ∙ w.kept ∙ ap kept_part (sym (all_begun w.begun (record { lines = w.lines; left = w.left }) none))
