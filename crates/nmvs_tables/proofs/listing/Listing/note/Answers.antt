use Rattle.std.proofs.Common.{◌≡◌, ◌∙◌, ℕ, ◌+◌, ◌<◌, ◌^◌, Some, cond, unwrap_or, sym, ap, subst, arith}
use Rattle.std.specs.HashMap.{get}
use Rattle.nmvs_identifier.specs.Texts.{same_text}
use Rattle.nmvs_tables.specs.Listing.{listed_in}
use Rattle.nmvs_tables.proofs.ListingLemmas.{listed_in-push, placed-push}
use Rattle.nmvs_tables.proofs.listing.Listing.note.Goals as goal

pub overflow_add-index : goal.overflow_add-index
overflow_add-index g c =
    let P : ℕ → Type 0 = λ n. n + 1 < 2 ^ 64 in
    let count : c.unwrap_or-index.result ≡ listed_in c.args.self.now.counts c.args.batch.now.code = ◌∙◌ {b = unwrap_or c.find-found.result.1 0} c.unwrap_or-index.ensures (ap (λ o. unwrap_or o 0) c.find-found.ensures.value) in
    let fits : c.unwrap_or-index.result + 1 < 2 ^ 64 = subst P (sym count) (c.requires.fits c.args.batch.now.code) in
    omega (arith, fits)

pub returns : goal.returns
returns g c = λ bs are.
    let self = c.args.self.now in
    let b = c.args.batch.now in
    let count : c.unwrap_or-index.result ≡ listed_in self.counts b.code = ◌∙◌ {b = unwrap_or c.find-found.result.1 0} c.unwrap_or-index.ensures (ap (λ o. unwrap_or o 0) c.find-found.ensures.value) in
    record {
      counts = listed_in-push self.counts c.write.new.table bs b are.counts
          (λ d. c.write.ensures.updates d ∙ ap (λ n. cond (same_text b.code d) (Some (n + 1)) (get same_text self.counts d)) count);
      batches = placed-push self.batches c.insert.new.table bs b c.unwrap_or-index.result (count ∙ are.counts b.code) are.batches c.insert.ensures.updates;
    }
