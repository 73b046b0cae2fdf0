-- QUIT is the text of no ask.
use Rattle.std.proofs.Common.{◌≡◌, ◌≢◌, ◌↔◌, IsTrue, Bool, true, false, subst, List, ℕ, [], ◌∷◌, ◌++◌, ◌||◌, None, Result, Ok, Err, get_or, refl, sym, ap, ◌∙◌, arith}
use Rattle.std.proofs.Math.Bool.{or-true}
use Rattle.std.specs.List.{list_any}
use Rattle.std.proofs.lemmas.List.Folds.{list_any-append}
use Rattle.nmvs_words.specs.declared.question_kind.QuestionKind.TheVariants.{OfPack}
use Rattle.nmvs_words.specs.Kinds.{kind_of, kind_word, texts_of}
use Rattle.nmvs_messages.specs.declared.ask.Asked.{Asked}
use Rattle.nmvs_messages.specs.declared.ask.Asked.TheVariants as asked
use Rattle.nmvs_messages.specs.declared.ask.Line.{Line}
use Rattle.nmvs_messages.specs.declared.ask.Line.TheVariants as lines
use Rattle.nmvs_messages.specs.declared.ask.Unread.{Unread}
use Rattle.nmvs_messages.specs.Fields.{is_space, line_of_fields}
use Rattle.nmvs_protocol.specs.Lines.{asked_fields, if_word, line_text, report_word, first_fault, ReadsLine}
use Rattle.nmvs_messages.specs.Tags.{tag_text}
use Rattle.nmvs_protocol.proofs.SpellingLemmas.{first_fault-text}

-- a line of several fields has a space
several_are_no_quit : (front user word : List ℕ) (texts : List (List ℕ)) → front ++ line_of_fields (user ∷ word ∷ texts) ≢ line_text lines.Quit
several_are_no_quit front user word texts e =
    let rest = line_of_fields (word ∷ texts) in
    let spaced = list_any-append is_space front (user ++ 32 ∷ rest)
    ∙ ap (λ (b : Bool). list_any is_space front || b) (list_any-append is_space user (32 ∷ rest) ∙ or-true (list_any is_space user)) ∙ or-true (list_any is_space front) in
    let same = ap (list_any is_space) e in
    absurd (cc (sym spaced ∙ same))

quit_is_no_fault : first_fault (line_text lines.Quit) ≡ None
quit_is_no_fault = first_fault-text lines.Quit refl

-- a line that is not read as QUIT does not have its text
pub not_quit : (x : List ℕ) (r : Result Line Unread) → ReadsLine x r → r ≢ Ok lines.Quit → x ≢ line_text lines.Quit
not_quit x (Ok lines.Ping) h other e = let n : 80 ≡ 81 = ap (λ (t : List ℕ). get_or t 0 0) (sym h.0 ∙ e) in absurd (omega (arith, n))
not_quit x (Ok lines.Version) h other e = let n : 86 ≡ 81 = ap (λ (t : List ℕ). get_or t 0 0) (sym h.0 ∙ e) in absurd (omega (arith, n))
not_quit x (Ok lines.Help) h other e = let n : 72 ≡ 81 = ap (λ (t : List ℕ). get_or t 0 0) (sym h.0 ∙ e) in absurd (omega (arith, n))
not_quit x (Ok lines.Quit) h other e = other refl
not_quit x (Ok (lines.Ask a)) h other e = asks a.asked (sym h.0 ∙ e)
  where
    asks : (b : Asked) → tag_text a.tag ++ line_of_fields (asked_fields b) ≡ line_text lines.Quit → ⊥
    asks (asked.Question user question) = several_are_no_quit (tag_text a.tag) user.bytes (kind_word (kind_of question)) (texts_of question)
    asks (asked.Conditional user kind p printed) =
        several_are_no_quit (tag_text a.tag) user.bytes (kind_word (OfPack kind)) (p.code.bytes ∷ p.serial.bytes ∷ if_word ∷ printed.batch.bytes ∷ printed.expiry.bytes ∷ [])
    asks (asked.Report user code) = several_are_no_quit (tag_text a.tag) user.bytes report_word (code.bytes ∷ [])
not_quit x (Err unread) h other e = let f = ap first_fault e in let n = quit_is_no_fault in let no = h.0 in cc (no, f, n)

-- a line is read as QUIT exactly if it has its text
pub quit_is_read : (b : Bool) (x : List ℕ) (r : Result Line Unread) → ReadsLine x r → (IsTrue b ↔ (r ≡ Ok lines.Quit)) → (IsTrue b ↔ (x ≡ line_text lines.Quit))
quit_is_read true x r reads is = (λ yes. let h = subst (λ (t : Result Line Unread). ReadsLine x t) (is.0 yes) reads in h.0, λ e. refl)
quit_is_read false x r reads is = (λ no. absurd (cc no), λ e. absurd (not_quit x r reads (λ (q : r ≡ Ok lines.Quit). absurd (cc (is.1 q))) e))
