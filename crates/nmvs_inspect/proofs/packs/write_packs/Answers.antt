use Rattle.std.proofs.Common.{◌≡◌, ◌∙◌, ◌∷◌, ◌++◌, [], List, ℕ, Some, get_or, ap, sym, refl}
use Rattle.std.specs.Prelude.{slice_get}
use Rattle.std.proofs.lemmas.Option.{get_or_from_slice_get, slice_get_within}
use Rattle.std.specs.Option.{is_some}
use Rattle.std.proofs.lemmas.List.{append-nil, flat_map_more}
use Rattle.nmvs_rules.specs.declared.facts.Facts.{Facts}
use Rattle.nmvs_rules.specs.Trail.{is_birth_in}
use Rattle.nmvs_inspect.specs.Packs.{Standing, heads, pack_row}
use Rattle.nmvs_inspect.proofs.GatheringLemmas.{gathered-begin, gathered-more}
use Rattle.nmvs_inspect.proofs.ListLemmas.{taken-next, untaken-next}
use Rattle.nmvs_inspect.proofs.PackLemmas.{uploaded-known}
use Rattle.nmvs_inspect.proofs.packs.write_packs.Goals as goal
use Rattle.nmvs_inspect.proofs.packs.write_packs.Goals.{then-is_upload_in+in_ok-append_pack+in_ok-write_full, else-is_upload_in}

pub loop-place-init : goal.loop-place-init
loop-place-init g c =
    let first = heads c.args.form in
    ([], refl, gathered-begin _ _ _ (c.in_ok-append_heads.ensures ∙ ap (λ (x : List ℕ). x ++ first) c.new-block.ensures.items ∙ sym (append-nil first)))

pub unwrap-known-requires : goal.unwrap-known-requires
unwrap-known-requires g c =
    let t = c.args.shard.now in
    let i = c.loop-place.place in
    let e = c.unwrap-entry.result in
    let stands : slice_get t i ≡ Some e = sym c.entry_at.ensures ∙ c.unwrap-entry.ensures in
    let is : e ≡ get_or t i e = sym (get_or_from_slice_get t i e e stands) in
    let known = uploaded-known t c.args.code.now c.args.batch.now i e (slice_get_within t i e stands) is (sym c.is_upload_in.ensures ∙ c.if-is_upload_in.true) in
    ap (λ (f : Facts). is_some f.pack) (c.facts.ensures.facts t c.tables-tables.ensures.agree) ∙ known

pub loop-place-preserved : goal.loop-place-preserved
loop-place-preserved g c =
    let inv = c.loop-place.invariant in
    let t = c.args.shard.now in
    let p = is_birth_in c.args.code.now c.args.batch.now in
    let i = c.loop-place.place in
    let e = c.unwrap-entry.result in
    let stands : slice_get t i ≡ Some e = sym c.entry_at.ensures ∙ c.unwrap-entry.ensures in
    let is : e ≡ get_or t i e = sym (get_or_from_slice_get t i e e stands) in
    let l = slice_get_within t i e stands in
    let told = c.is_upload_in.ensures in
    elim c.if-is_upload_in.branch [
      | then-is_upload_in+in_ok-append_pack+in_ok-write_full w ↦
          let k = w.unwrap-known.result in
          let s : Standing t = record {
            upload = e;
            known = k;
            at = w.mark_time-at.result;
            is = sym (ap (λ (f : Facts). f.pack) (w.facts.ensures.facts t c.tables-tables.ensures.agree)) ∙ w.unwrap-known.ensures;
            right = w.mark_time-at.ensures;
          } in
          let f : Standing t → List ℕ = λ p. pack_row c.args.form p.upload p.known p.at in
          let more = w.in_ok-write_full.ensures _ _ (gathered-more _ _ _ _ _ _ inv.2 w.in_ok-append_pack.ensures) in
          rw (w.sink-is, w.block-is) (
            inv.0 ++ s ∷ [],
            taken-next (λ (p : Standing t). p.upload) p t i e inv.0 s l (sym told ∙ w.if-is_upload_in.true) is refl inv.1,
            rw (sym (flat_map_more f (heads c.args.form) inv.0 s)) more,
          )
      | else-is_upload_in w ↦ rw (w.sink-is, w.block-is) (
        inv.0,
        untaken-next (λ (p : Standing t). p.upload) p t i e inv.0 l (sym told ∙ w.if-is_upload_in.false) is inv.1,
        inv.2,
      )
    ]
