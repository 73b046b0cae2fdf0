use Rattle.std.proofs.Common.{◌∙◌, [], length, nat_eq, sym, ap}
use Rattle.nmvs_messages.proofs.EntryTexts.{export_empty}
use Rattle.nmvs_tables.proofs.CursorLemmas.{length-remaining}
use Rattle.nmvs_desk.proofs.shown.ShownLineList.is_empty.Goals as goal

pub returns : goal.returns
returns g c =
    let s = c.self.inside in
    ap (λ n. nat_eq n 0) (sym (length-remaining s.sight.seen [] s.cursor c.self.invariant.2) ∙ ap length c.self.view_is) ∙ sym (export_empty c.args.self.now)
