use Rattle.std.proofs.Common.{◌∙◌, ◌-◌, ℕ, ap, sym, arith}
use Rattle.nmvs_rows.specs.Rows.{known_of}
use Rattle.nmvs_tables.specs.Packs.{entry_before}
use Rattle.nmvs_tables.proofs.PlacesLemmas.{before-some, no-mark}
use Rattle.nmvs_tables.proofs.packs.known_by.Goals as goal

pub returns-then-places-eq0-2 : goal.returns-then-places-eq0-2
returns-then-places-eq0-2 g c =
    let t = c.args.rows.now in
    let w = c.args.places.now in
    sym (ap (λ (n : ℕ). known_of (entry_before t w.upload) (entry_before t n) (w.mark - 1)) c.if-places-eq0-2.true ∙ no-mark (entry_before t w.upload) (w.mark - 1))

pub returns : goal.returns
returns g c =
    let t = c.args.rows.now in
    let w = c.args.places.now in
    let upload = before-some t w.upload (omega (arith, c.if-places-eq0.false)) in
    let mark = before-some t w.mark (omega (arith, c.if-places-eq0-2.false)) in
    c.known.ensures ∙ (λ i. known_of (upload i) (mark i) (w.mark - 1))
