use Rattle.std.proofs.Common.{◌≡◌, ◌<◌, ◌∙◌, ◌+◌, ◌++◌, ◌∷◌, [], List, ℕ, length, get_or, take, sym, ap, append_assoc}
use Rattle.std.proofs.lemmas.List.{flat_map_more, take_more}
use Rattle.nmvs_rules.specs.declared.entry.Entry.{Entry}
use Rattle.nmvs_line.specs.Export.{ended_line, export_text}
use Rattle.nmvs_line.specs.Line.{entry_line}
use Rattle.nmvs_protocol.proofs.replies.reply_text.Goals as goal

-- the text of one entry more
one_more : (front : List ℕ) (shown : List Entry) (i : ℕ) (e : Entry) (text line text' text'' : List ℕ) → i < length shown → e ≡ get_or shown i e
    → text ≡ front ++ export_text (take i shown) → line ≡ entry_line e → text' ≡ text ++ line → text'' ≡ text' ++ 10 ∷ [] → text'' ≡ front ++ export_text (take (i + 1) shown)
one_more front shown i e text line text' text'' within at before is more ends =
    ends ∙ ap (λ (t : List ℕ). t ++ 10 ∷ []) (more ∙ (λ j. before j ++ is j))
    ∙ append_assoc (front ++ export_text (take i shown)) (entry_line e) (10 ∷ []) ∙ flat_map_more ended_line front (take i shown) e
    ∙ ap (λ (es : List Entry). front ++ export_text es) (ap (λ (x : Entry). take i shown ++ x ∷ []) at ∙ sym (take_more shown i e within))

pub loop-entry-preserved : goal.loop-entry-preserved
loop-entry-preserved c =
    one_more _ c.args.shown.now c.loop-entry.entry-index c.entry-item.result _ _ _ _ c.loop-entry-test.true c.entry-item.is c.loop-entry.invariant
    (c.as_str-in-loop-entry.ensures.value ∙ c.entry_line.ensures.line) c.in_ok-push_str.ensures.bytes c.in_ok-push_str-2.ensures.bytes
