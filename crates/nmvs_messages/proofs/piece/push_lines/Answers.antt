use Rattle.std.proofs.Common.{◌≡◌, ◌∙◌, ◌++◌, ◌∷◌, [], List, ℕ, length, refl, sym, ap, arith, rules}
use Rattle.std.proofs.lemmas.List.{append-nil, append_assoc}
use Rattle.std.proofs.lemmas.Grind.{flat_map-append}
use Rattle.nmvs_line.specs.Export.{export_text, ended_line}
use Rattle.nmvs_rules.specs.declared.entry.Entry.{Entry}
use Rattle.nmvs_messages.proofs.piece.push_lines.Goals as goal

pub loop-entry-init : goal.loop-entry-init
loop-entry-init c = (omega arith, omega arith, [], refl, sym (append-nil _))

pub push_line-requires : goal.push_line-requires
push_line-requires c =
    let e = c.in-Some.entry.now in
    let later = c.in-Some.later.now in
    let cut : c.loop-entry.rest.now ≡ e ∷ later = search rules in
    let n = ap (λ (l : List Entry). length l) cut in
    omega (arith, n, c.requires, c.loop-entry.invariant.0, c.loop-entry.invariant.1)

pub loop-entry-preserved : goal.loop-entry-preserved
loop-entry-preserved c =
    let inv = c.loop-entry.invariant in
    let e = c.in-Some.entry.now in
    let later = c.in-Some.later.now in
    let cut : c.loop-entry.rest.now ≡ e ∷ later = search rules in
    let n = ap (λ (l : List Entry). length l) cut in
    let more : export_text (inv.2 ++ e ∷ []) ≡ export_text inv.2 ++ ended_line e = flat_map-append ended_line inv.2 (e ∷ []) ∙ ap (λ (t : List ℕ). export_text inv.2 ++ t) (append-nil (ended_line e)) in (
      omega (arith, n, inv.0, c.push_line.ensures.len),
      omega (arith, inv.1, c.push_line.ensures.capacity),
      inv.2 ++ e ∷ [],
      append_assoc inv.2 (e ∷ []) later ∙ ap (λ (l : List Entry). inv.2 ++ l) (sym cut) ∙ inv.3,
      c.push_line.ensures.items ∙ ap (λ (t : List ℕ). t ++ ended_line e) inv.4 ∙ append_assoc c.args.bytes.now.items (export_text inv.2) (ended_line e) ∙ ap (λ (t : List ℕ). c.args.bytes.now.items ++ t) (sym more),
    )
