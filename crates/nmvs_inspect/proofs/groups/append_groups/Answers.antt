use Rattle.std.proofs.Common.{◌∙◌, ◌++◌, List, ℕ, map, take, get_or, sym, ap, ap₂, append_assoc}
use Rattle.std.specs.List.{flat_map}
use Rattle.std.specs.Global.{Vec}
use Rattle.nmvs_inspect.specs.Groups.{Group, group_cells, group_row}
use Rattle.nmvs_inspect.specs.Rows.{row_in}
use Rattle.nmvs_inspect.proofs.ListLemmas.{flat_map-next}
use Rattle.nmvs_inspect.proofs.groups.append_groups.Goals as goal

pub loop-group-preserved : goal.loop-group-preserved
loop-group-preserved c =
    let bs = c.args.by.now in
    let gs = c.args.groups.now in
    let i = c.loop-group.group-index in
    let g = c.group-item.result in
    let f = group_row c.args.form bs in
    let cells = ap (map (λ (t : Vec ℕ). t.items)) c.deref-in-loop-group.ensures.value ∙ c.in_ok-texts.ensures ∙ ap (group_cells bs) c.group-item.is in
    let row = ap₂ (λ (ws : List ℕ) (cs : List (List ℕ)). row_in ws c.args.form cs) (c.deref.ensures.value ∙ c.in_ok-widths.ensures) cells in
    c.in_ok-append_texts.ensures ∙ ap₂ (λ (x y : List ℕ). x ++ y) c.loop-group.invariant row
    ∙ append_assoc c.args.block.now.items (flat_map f (take i gs)) (f (get_or gs i g))
    ∙ ap (λ (x : List ℕ). c.args.block.now.items ++ x) (sym (flat_map-next f gs i g c.loop-group-test.true))
