use Rattle.std.proofs.Common.{◌∙◌, suc, refl, sym, ap, subst, arith, length}
use Rattle.std.specs.Prelude.{slice_get}
use Rattle.std.proofs.lemmas.List.{length-map}
use Rattle.std.proofs.lemmas.Option.{slice_get_read}
use Rattle.nmvs_history.specs.Views.{KeeperView}
use Rattle.nmvs_desk.specs.Opening.{table_of}
use Rattle.nmvs_desk.specs.Placing.{IsPartOf}
use Rattle.nmvs_desk.specs.Settlement.{row}
use Rattle.nmvs_desk.proofs.Closings.{rest_get, rest_row}
use Rattle.nmvs_desk.proofs.Noting.{read_row}
use Rattle.nmvs_desk.proofs.Opened.{locked_none, locked_more, keepers_named}
use Rattle.nmvs_desk.proofs.opening.keep_all.Goals as goal

pub loop-locked-init : goal.loop-locked-init
loop-locked-init g c =
    let h = g.H.Histories in
    let made = c.in_ok-locked.ensures in (
      rw (made.items, made.len) (locked_none h.opening),
      (λ j k at.
          let named = keepers_named h.tables c.keepers.inside.list.items (λ i. ap (λ t. table_of t i) c.keepers.view_is ∙ c.requires.tables i) c.keepers.invariant.0 j k at in
          (named.0 ∙ ap h.tables (omega (arith, made.len)), named.1)),
      (λ j. ap (row c.args.shards.items) (omega (arith, made.len))),
      omega (arith, c.requires.many, ap length c.keepers.view_is, length-map c.keepers.inside.list.items (λ (k : KeeperView). k.table), c.keepers.inside.list.ok.0),
      omega (arith, made.len, c.keepers.inside.list.ok.0),
      omega (arith, made.exact, c.len.ensures, c.keepers.inside.list.ok.0),
    )

pub new-requires-clause-table : goal.new-requires-clause-table
new-requires-clause-table g c =
    let l = c.loop-locked in
    let k = c.remove-keeper.result in
    let at = slice_get_read l.list.items (length l.list.items) 0 k refl (omega (arith, c.remove-keeper.ensures.len, l.list.ok.0)) c.remove-keeper.ensures.value in
    (l.invariant.1 0 k at).0 ∙ ap g.H.Histories.tables (omega (arith, c.len-index.ensures))

pub new-requires-clause-fresh : goal.new-requires-clause-fresh
new-requires-clause-fresh g c =
    let l = c.loop-locked in
    let k = c.remove-keeper.result in
    let at = slice_get_read l.list.items (length l.list.items) 0 k refl (omega (arith, c.remove-keeper.ensures.len, l.list.ok.0)) c.remove-keeper.ensures.value in
    (l.invariant.1 0 k at).1

pub new-requires-clause-opening : goal.new-requires-clause-opening
new-requires-clause-opening g c =
    let l = c.loop-locked in
    let shard = c.remove-shard.result in
    let first = read_row l.shards.items 0 shard (omega (arith, c.remove-shard.ensures.len, l.shards.ok.0)) c.remove-shard.ensures.value in
    c.requires.opening c.len-index.result ∙ ap (row c.args.shards.items) (omega (arith, c.len-index.ensures)) ∙ sym (l.invariant.2 0) ∙ first

pub new-requires-clause-placed : goal.new-requires-clause-placed
new-requires-clause-placed g c =
    let l = c.loop-locked in
    let shard = c.remove-shard.result in
    let first = read_row l.shards.items 0 shard (omega (arith, c.remove-shard.ensures.len, l.shards.ok.0)) c.remove-shard.ensures.value in
    let is = ap (row c.args.shards.items) (omega (arith, c.len-index.ensures)) ∙ sym (l.invariant.2 0) ∙ first in
    subst (λ t. IsPartOf g.H.Histories.shards c.len-index.result t) is (c.requires.placed c.len-index.result)

pub loop-locked-preserved : goal.loop-locked-preserved
loop-locked-preserved g c =
    let l = c.loop-locked in
    let h = g.H.Histories in
    let pushed = c.push_reserved.ensures in
    let more = c.new.ensures ∙ ap (λ n. record { trail = h.opening n; index = n; parts = 8 }) c.len-index.ensures in (
      rw (pushed.items, pushed.len) (locked_more l.locked.len h.opening l.locked.items c.new.result l.invariant.0 more),
      (λ j k at.
          let was = l.invariant.1 (suc j) k (sym (rest_get l.list.items j) ∙ ap (λ t. slice_get t j) (sym c.remove-keeper.ensures.items) ∙ at) in
          (was.0 ∙ ap h.tables (omega (arith, pushed.len)), was.1)),
      (λ j. ap (λ t. row t j) c.remove-shard.ensures.items ∙ rest_row l.shards.items j ∙ l.invariant.2 (suc j) ∙ ap (row c.args.shards.items) (omega (arith, pushed.len))),
      omega (arith, c.remove-shard.ensures.len, c.remove-keeper.ensures.len, l.invariant.3),
      omega (arith, pushed.len, c.remove-keeper.ensures.len, l.invariant.4),
      omega (arith, pushed.capacity, l.invariant.5),
    )
