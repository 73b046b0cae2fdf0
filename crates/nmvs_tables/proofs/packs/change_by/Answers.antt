use Rattle.std.proofs.Common.{◌≡◌, ◌∙◌, ◌+◌, List, [], ◌∷◌, ◌++◌, length, Some, ap, sym, subst, refl}
use Rattle.std.specs.Option.{is_some}
use Rattle.nmvs_rules.specs.declared.entry.Entry.{Entry}
use Rattle.nmvs_rows.specs.Rows.{number_in, packs_of}
use Rattle.nmvs_tables.specs.declared.packs.Places.{Places}
use Rattle.nmvs_tables.specs.Packs.{AreWithin, changed, known_by, number_named, places_at, places_in, row_in, row_named, places_after}
use Rattle.nmvs_tables.proofs.PlacesLemmas.{change-noted, change-within, unnamed-noted}
use Rattle.nmvs_tables.proofs.packs.change_by.Goals as goal

pub returns-in_default-clause-noted : goal.returns-in_default-clause-noted
returns-in_default-clause-noted g c = unnamed-noted c.args.rows.now c.args.entry.now c.args.packs.now.items c.requires.within (sym c.in_default.ensures)

pub returns-clause-within : goal.returns-clause-within
returns-clause-within g c =
    let t : List Entry = c.args.rows.now in
    let e : Entry = c.args.entry.now in
    let ws : List Places = c.args.packs.now.items in
    let k = c.in-Some._pack in
    let n : c.args.number ≡ number_in (packs_of t) k = c.requires.number ∙ ap (number_named t) (sym c.in-Some.ensures) in
    let old : c.places_at-old.result ≡ places_in t ws k = c.places_at-old.ensures ∙ ap (places_at ws) n in
    let b : c.args.is_known ≡ is_some (known_by t (places_in t ws k)) = c.requires.known ∙ ap (λ o. is_some (row_named t ws o).known) (sym c.in-Some.ensures) in
    let w : c.places_after-places.result ≡ places_after (length t + 1) e (is_some (known_by t (places_in t ws k))) (places_in t ws k) =
    c.places_after-places.ensures ∙ (λ i. places_after (c.len.ensures.len i + 1) e (b i) (old i)) in
    subst (λ (l : List Places). AreWithin (t ++ e ∷ []) l) (λ i. changed ws (Some (sym n i, sym w i)))
    (change-within t e ws c.requires.within k (sym c.in-Some.ensures) (is_some (known_by t (places_in t ws k))) refl)

pub returns-clause-noted : goal.returns-clause-noted
returns-clause-noted g c = λ p.
    let t : List Entry = c.args.rows.now in
    let e : Entry = c.args.entry.now in
    let ws : List Places = c.args.packs.now.items in
    let k = c.in-Some._pack in
    let n : c.args.number ≡ number_in (packs_of t) k = c.requires.number ∙ ap (number_named t) (sym c.in-Some.ensures) in
    let old : c.places_at-old.result ≡ places_in t ws k = c.places_at-old.ensures ∙ ap (places_at ws) n in
    let b : c.args.is_known ≡ is_some (known_by t (places_in t ws k)) = c.requires.known ∙ ap (λ o. is_some (row_named t ws o).known) (sym c.in-Some.ensures) in
    let w : c.places_after-places.result ≡ places_after (length t + 1) e (is_some (known_by t (places_in t ws k))) (places_in t ws k) =
    c.places_after-places.ensures ∙ (λ i. places_after (c.len.ensures.len i + 1) e (b i) (old i)) in
    (λ i. row_in (t ++ e ∷ []) (changed ws (Some (n i, w i))) p)
    ∙ change-noted t e ws c.requires.within k (sym c.in-Some.ensures) (is_some (known_by t (places_in t ws k))) refl p
