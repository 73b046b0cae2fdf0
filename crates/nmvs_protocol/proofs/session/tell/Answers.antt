use Rattle.std.proofs.Common.{◌∙◌, sym}
use Rattle.nmvs_protocol.proofs.SessionTelling.{told_withheld, tells_front, tells_part, tells_whole}
use Rattle.nmvs_protocol.proofs.session.tell.Goals as goal

pub returns-in_default-clause-tells : goal.returns-in_default-clause-tells
returns-in_default-clause-tells g c =
    told_withheld g.D.Desk.releases g.D.Desk.moves _ _ _ _ c.release-released.result _ _ _
    (sym c.is_empty.ensures ∙ c.if-is_empty.false) c.release-released.ensures.moves c.release-released.ensures.released (tells_front _ _ _ _ c.in_default.ensures.err)

pub returns-in-Ok-write_shown-clause-tells : goal.returns-in-Ok-write_shown-clause-tells
returns-in-Ok-write_shown-clause-tells g c =
    told_withheld g.D.Desk.releases g.D.Desk.moves _ _ _ _ c.release-released.result _ _ _
    (sym c.is_empty.ensures ∙ c.if-is_empty.false) c.release-released.ensures.moves c.release-released.ensures.released
    (tells_whole _ _ _ _ _ c.in-Ok.replied c.in-Ok.ensures.replied c.in-Ok.ensures.ok c.in-Ok-write_shown.ensures.ok)

pub returns-in-Err-clause-tells : goal.returns-in-Err-clause-tells
returns-in-Err-clause-tells g c =
    told_withheld g.D.Desk.releases g.D.Desk.moves _ _ _ _ c.release-released.result _ _ _
    (sym c.is_empty.ensures ∙ c.if-is_empty.false) c.release-released.ensures.moves c.release-released.ensures.released
    (tells_part _ _ _ _ _ c.in-Ok.replied c.in-Ok.ensures.replied c.in-Ok.ensures.ok c.in-Err.ensures.err)
