use Rattle.nmvs_protocol.proofs.TagLemmas.{fields_whole, fields_cut}
use Rattle.std.proofs.Common.{subst, sym}
use Rattle.std.specs.Prelude.{IfNone, ◌≡◌, ◌∷◌, []}
use Rattle.nmvs_messages.specs.Fields.{fields_in}
use Rattle.nmvs_protocol.proofs.tags.cut_field.Goals as goal

pub returns-in_err-space-clause-none : goal.returns-in_err-space-clause-none
returns-in_err-space-clause-none c =
    subst (λ r. IfNone r (fields_in c.args.text.now ≡ c.args.text.now ∷ [])) (sym c.from_residual.ensures) (fields_whole c.args.text.now c.in_err-space.ensures)

pub returns-clause-cut : goal.returns-clause-cut
returns-clause-cut c =
    let at = c.in_ok-space.ensures in fields_cut c.args.text.now c.in_ok-space.space at.0.high at.0.before at.1
