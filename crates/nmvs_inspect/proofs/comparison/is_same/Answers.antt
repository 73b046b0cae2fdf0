use Rattle.std.proofs.Common.{◌≡◌, ◌∙◌, ◌&&◌, Bool, true, not, is_some, List, ℕ, Option, Some, None, refl, sym, ap}
use Rattle.std.proofs.lemmas.Slice.Eq.{bytes_eq-Decides}
use Rattle.std.specs.Str.{bytes_eq}
use Rattle.nmvs_identifier.specs.Tag.{Tag}
use Rattle.nmvs_rules.specs.declared.entry.Entry.{Entry}
use Rattle.nmvs_rules.specs.declared.put.Put.{Put}
use Rattle.nmvs_line.specs.Line.{entry_line, is_in, is_line, version_of}
use Rattle.nmvs_inspect.proofs.comparison.is_same.Goals as goal

told : (tag : Option Tag) (q : Put) → q.tag ≡ tag → is_in (version_of tag) q ≡ true
told None q e = ap (λ (t : Option Tag). not (is_some t)) e
told (Some tag) q e = ap (λ (t : Option Tag). is_some t) e

-- the line in which an entry is written is one of its lines
own_line : (text : List ℕ) (e : Entry) → text ≡ entry_line e → is_line text (version_of e.put.tag) e ≡ true
own_line text e is = ap (λ (b : Bool). b && bytes_eq text (entry_line e)) (told e.put.tag e.put refl) ∙ (bytes_eq-Decides text (entry_line e)).1 is

pub returns : goal.returns
returns c =
    let e = c.args.entry.now in
    let f = c.args.other.now in
    let x = c.as_str.result.now in
    let y = c.as_str-2.result.now in
    let of_e : x ≡ entry_line e = c.as_str.ensures.value ∙ c.entry_line.ensures.line in
    let of_f : y ≡ entry_line f = c.as_str-2.ensures.value ∙ c.entry_line-2.ensures.line in
    let decides = bytes_eq-Decides x y in (
      λ h.
          let same : x ≡ y = decides.0 (sym c.eq.ensures ∙ h) in
          sym
          (c.entry_line_laws.ensures.one_entry x (version_of e.put.tag) (version_of f.put.tag) e f c.entry_line.ensures.in_range c.entry_line-2.ensures.in_range
          (own_line x e of_e) (own_line x f (same ∙ of_f))).1,
      λ h. c.eq.ensures ∙ decides.1 (of_e ∙ ap entry_line (sym h) ∙ sym of_f),
    )
