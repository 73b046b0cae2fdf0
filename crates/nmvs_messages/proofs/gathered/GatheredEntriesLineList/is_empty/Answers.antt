use Rattle.std.proofs.Common.{◌≡◌, ◌∙◌, nat_eq, length, sym, ap, arith}
use Rattle.std.proofs.lemmas.List.{length-drop}
use Rattle.nmvs_messages.proofs.EntryTexts.{export_empty, none_between}
use Rattle.nmvs_messages.proofs.gathered.GatheredEntriesLineList.is_empty.Goals as goal

pub returns : goal.returns
returns g c =
    let is = c.self.inside in
    let many : c.len.result ≡ length is.entries.items = omega (arith, c.len.ensures, is.entries.ok) in
    ap (nat_eq is.fetched) many ∙ none_between is.fetched (length is.entries.items) c.self.invariant
    ∙ ap (λ n. nat_eq n 0) (sym (length-drop is.fetched is.entries.items) ∙ ap length c.self.view_is) ∙ sym (export_empty c.args.self.now)
