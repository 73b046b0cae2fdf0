-- The story of a pack (own): the entries about it, those that recall or withdraw its batch, and how it stands at their end.
use Rattle.std.specs.Prelude.{ℕ, List, [], ◌∷◌, ◌++◌, codes, Some}
use Rattle.nmvs_identifier.specs.declared.pack.Pack.{Pack}
use Rattle.nmvs_rules.specs.declared.entry.Entry.{Entry}
use Rattle.nmvs_rules.specs.declared.reply.Reply.{Reply}
use Rattle.nmvs_rules.specs.declared.reply.Reply.TheVariants.{NoPack}
use Rattle.nmvs_rules.specs.Rules.{lock_on, on_pack, status_reply}
use Rattle.nmvs_rules.specs.Trail.{known}
use Rattle.nmvs_inspect.specs.declared.filter.Filter.{Filter}
use Rattle.nmvs_inspect.specs.declared.form.Form.{Form}
use Rattle.nmvs_inspect.specs.Filter.{every}
use Rattle.nmvs_inspect.specs.Rows.{Dated, list_text, reply_cells, row}

-- the filter of a story
abbrev pub story_of : Pack → Filter
story_of p = record every { pack = Some p }

-- the reply of the rules to a question for the status of the pack, whoever asks it and when
abbrev pub status_of : List Entry → Pack → Reply
status_of t p = on_pack (known t p) NoPack (λ k. status_reply k (lock_on t p k))

-- the cells of that reply, which is no entry's
abbrev pub status_cells : Form → Pack → Reply → List (List ℕ)
status_cells form p r =
    (codes "at the end" ∷ [] ∷ [] ∷ [] ∷ [] ∷ codes "STATUS" ∷ p.code.bytes ∷ p.serial.bytes ∷ [] ∷ []) ++ reply_cells form r

-- the list of the story's entries, and the status
abbrev pub story_text : Form → Pack → Reply → List Dated → List ℕ
story_text form p r ds = list_text form ds ++ row form (status_cells form p r)
