use Rattle.std.proofs.Common.{◌∙◌, ◌∷◌, ◌++◌, [], List, ap, sym}
use Rattle.std.proofs.lemmas.List.Elements.{All-push}
use Rattle.std.proofs.lemmas.List.Sums.{fold_push}
use Rattle.nmvs_inspect.specs.Groups.{Group, IsSingle, with_entry}
use Rattle.nmvs_inspect.proofs.ListLemmas.{each-next}
use Rattle.nmvs_inspect.proofs.groups.count_all.Goals as goal

pub loop-place-preserved : goal.loop-place-preserved
loop-place-preserved g c =
    let inv = c.loop-place.invariant in
    let bs = c.args.by.now in
    let d = c.single-found.result in
    let ds = inv.found.0 in
    let i = c.loop-place.place in
    record {
      found = (
        ds ++ d ∷ [],
        each-next (λ (d : Group). d.first) c.args.entries.now i c.index-entries-place.result ds d c.loop-place-test.true c.index-entries-place.is (c.single-found.ensures.entry ∙ c.entry-entry.ensures) inv.found.1,
        All-push IsSingle ds d inv.found.2 c.single-found.ensures.single,
        c.in_ok-count.ensures.groups ∙ ap (λ (gs : List Group). with_entry bs gs d) inv.found.3 ∙ sym (fold_push (with_entry bs) [] ds d),
      );
      keys = c.in_ok-count.ensures.keys;
      few = c.in_ok-count.ensures.few;
    }
