use Rattle.std.proofs.Common.{◌∙◌, ◌++◌, List, ℕ, ap, subst, take}
use Rattle.std.specs.List.{flat_map}
use Rattle.std.proofs.lemmas.Result.{on_ok_weaker}
use Rattle.nmvs_inspect.specs.Groups.{Group, group_row}
use Rattle.nmvs_inspect.specs.Premises.{AreMostFirst, by_premises}
use Rattle.nmvs_inspect.specs.declared.form.Form.TheVariants as form
use Rattle.nmvs_inspect.proofs.premises.append_premises.Goals as goal

pub returns : goal.returns
returns g c =
    let told = c.in_ok-groups.ensures in
    let most = c.sort_most_first.new.groups.items in
    let first = c.first_rows.ensures ∙ ap (take 20) c.deref.ensures.value in
    on_ok_weaker c.append_groups.result
    (λ h. (
      most,
      (told.0, told.1, subst (λ (gs : List Group). AreMostFirst gs most) told.2 c.in_ok-sort_most_first.ensures),
      h ∙ ap (λ (gs : List Group). c.args.block.now.items ++ flat_map (group_row form.Html by_premises) gs) first,
    ))
    c.append_groups.ensures
