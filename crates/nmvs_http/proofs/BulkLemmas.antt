-- A bulk of questions is their lines, and its response the bodies of their answers.
use Rattle.std.proofs.Common.{◌≡◌, ◌+◌, ℕ, Bool, true, false, List, [], ◌∷◌, ◌++◌, drop, map, Option, Some, None, Result, Ok, Err, codes, cond, refl, sym, ap, ◌∙◌, subst, append_assoc}
use Rattle.std.specs.Prelude.{IsSomeAnd, option_and_then}
use Rattle.std.specs.List.{AllByRecursion}
use Rattle.json.specs.Json.{Json}
use Rattle.nmvs_words.specs.Words.{spaced}
use Rattle.nmvs_stream.specs.InputLines.{HasNoLf, input_lines, lines_after}
use Rattle.nmvs_stream.proofs.LinesOfPieces.{line_cut}
use Rattle.nmvs_messages.specs.declared.answer.Answer.{Answer}
use Rattle.nmvs_protocol.specs.Session.{session_text}
use Rattle.nmvs_protocol.specs.Texts.{text}
use Rattle.nmvs_json.specs.declared.asked_kind.AskedKind.{AskedKind}
use Rattle.nmvs_json.specs.declared.question_fault.QuestionFault.{QuestionFault}
use Rattle.nmvs_json.specs.declared.question_fault.QuestionFault.TheVariants as fault
use Rattle.nmvs_json.specs.declared.refusal.Refusal.{Refusal}
use Rattle.nmvs_json.specs.declared.subject.Subject.{Subject}
use Rattle.nmvs_json.specs.Bulks.{bulk_lines, item_fields, item_key, item_kind, item_line, item_line_with, item_lines, item_subject, items_in, line_and, numbered, lines_of_items, lines_of_object, others_of}
use Rattle.nmvs_json.specs.Questions.{fields_of, is_key, key_text, line_of, object_in, with_subject}
use Rattle.nmvs_json.specs.Replies.{bodies, body_text, body_where, bulk_text, first_line, first_word, places_of, separated}
use Rattle.nmvs_http.specs.BulkLaws.{AreLinesOf, IsAnsweredByBodies, IsAskedByLines, IsLineText}
use Rattle.nmvs_http.proofs.OneLineLemmas.{AreFields, IsLine, are_fields, is_line}

-- a line and LF before more bytes
one_more : (bytes line rest : List ℕ) → bytes ≡ line ++ 10 ∷ [] → (x : IsLineText bytes) → x.line ≡ line → input_lines (bytes ++ rest) ≡ line ∷ input_lines rest
one_more bytes line rest whole x same =
    line_cut [] line rest (ap (λ (t : List ℕ). t ++ rest) whole ∙ append_assoc line (10 ∷ []) rest) (subst (λ (l : List ℕ). HasNoLf l) same x.no_lf)

-- the line of an item
record IsItem (j : Json) (bytes : List ℕ) : Type 0 where
  key : Option (List ℕ)
  fields : List (List ℕ)
  key_is : item_key j ≡ Some key
  fields_are : item_fields (others_of key) j ≡ Some fields
  its_line : IsLine bytes key fields

item_is : (j : Json) (bytes : List ℕ) → item_line j ≡ Ok bytes → IsItem j bytes
unfolding item_line
item_is j bytes e = by (item_key j) refl e
  where
    asked : (others : ℕ) (o : Option AskedKind) (fields : List (List ℕ)) → option_and_then (λ kind. fields_of others kind j) o ≡ Some fields → AreFields fields
    asked others None fields e = absurd (cc e)
    asked others (Some kind) fields e = are_fields others kind j fields e

    on : (key : Option (List ℕ)) → item_key j ≡ Some key → is_key key ≡ true → (o : Option (List (List ℕ))) → item_fields (others_of key) j ≡ o → line_of key o ≡ Ok bytes → IsItem j bytes
    on key k t None p e = absurd (cc e)
    on key k t (Some fields) p e =
        let same : key_text key ++ spaced fields ≡ bytes = cc e in
        record { key = key; fields = fields; key_is = k; fields_are = p; its_line = is_line key fields bytes t (asked (others_of key) (item_kind j) fields p) same }

    keyed : (key : Option (List ℕ)) → item_key j ≡ Some key → (b : Bool) → is_key key ≡ b → cond b (line_of key (item_fields (others_of key) j)) (Err fault.Key) ≡ Ok bytes → IsItem j bytes
    keyed key k false t e = absurd (cc e)
    keyed key k true t e = on key k t (item_fields (others_of key) j) refl e

    by : (o : Option (Option (List ℕ))) → item_key j ≡ o → item_line_with j o ≡ Ok bytes → IsItem j bytes
    by None k e = absurd (cc e)
    by (Some key) k e = keyed key k (is_key key) refl e

-- the lines of items, one after the other
abbrev HaveLines : List Json → Type 0
HaveLines js = (n : ℕ) (bytes : List ℕ) → item_lines n js ≡ Ok bytes → AreLinesOf js (input_lines bytes)

lines_are : (js : List Json) (n : ℕ) (bytes : List ℕ) → item_lines n js ≡ Ok bytes → AreLinesOf js (input_lines bytes)
unfolding lines_after
lines_are [] n bytes e = let none : [] ≡ bytes = cc e in subst (λ (t : List ℕ). AreLinesOf [] (input_lines t)) none tt
lines_are (j ∷ js) n bytes e = by (lines_are js) (item_line j) refl (item_lines (n + 1) js) refl e
  where
    by : HaveLines js → (r : Result (List ℕ) QuestionFault) → item_line j ≡ r → (s : Result (List ℕ) Refusal) → item_lines (n + 1) js ≡ s → line_and (numbered n j r) s ≡ Ok bytes → AreLinesOf (j ∷ js) (input_lines bytes)
    by have (Err f) p s q e = absurd (cc e)
    by have (Ok x) p (Err f) q e = absurd (cc e)
    by have (Ok x) p (Ok later) q e =
        let same : x ++ later ≡ bytes = cc e in
        let item = item_is j x p in
        let l = item.its_line in
        let cut : input_lines (x ++ later) ≡ l.line ∷ input_lines later = one_more x l.line later l.whole (record { line = l.line; no_lf = l.no_lf; whole = l.whole }) refl in
        subst (λ (t : List ℕ). AreLinesOf (j ∷ js) (input_lines t)) same
        (subst (λ (ls : List (List ℕ)). AreLinesOf (j ∷ js) ls) (sym cut)
        (record { key = item.key; fields = item.fields; key_is = item.key_is; fields_are = item.fields_are; tagged = l.tagged; behind = l.behind }, have (n + 1) later q))

pub asked_by_lines : IsAskedByLines
unfolding bulk_lines
asked_by_lines body bulk e = by (object_in body) e
  where
    told : (js : List Json) (r : Result (List ℕ) Refusal) → item_lines 0 js ≡ r → with_subject (map item_subject js) r ≡ Ok bulk → (bulk.0 ≡ map item_subject js) × AreLinesOf js (input_lines bulk.1)
    told js (Err f) p e = absurd (cc e)
    told js (Ok lines) p e =
        let same : (map item_subject js, lines) ≡ bulk = cc e in
        (sym (ap (λ (b : List Subject × List ℕ). b.0) same), subst (λ (b : List Subject × List ℕ). AreLinesOf js (input_lines b.1)) same (lines_are js 0 lines p))

    on : (o : Option (List Json)) → lines_of_items o ≡ Ok bulk → IsSomeAnd o (λ items. (bulk.0 ≡ map item_subject items) × AreLinesOf items (input_lines bulk.1))
    on None e = absurd (cc e)
    on (Some js) e = told js (item_lines 0 js) refl e

    by : (o : Option Json) → lines_of_object o ≡ Ok bulk → IsSomeAnd (option_and_then items_in o) (λ items. (bulk.0 ≡ map item_subject items) × AreLinesOf items (input_lines bulk.1))
    by None e = absurd (cc e)
    by (Some j) e = on (items_in j) e

-- the bodies of no answers
none_answered : (missing : List Subject) → bodies missing (input_lines []) ≡ map (λ subject. body_text subject []) missing
unfolding bodies body_text lines_after
none_answered [] = refl
none_answered (subject ∷ missing) = ap (λ (later : List (List ℕ)). body_text subject [] ∷ later) (none_answered missing)

-- the body of an answer of one line, before more bodies
one_answered : (subject : Subject) (others : List Subject) (bytes rest : List ℕ) → (x : IsLineText bytes) → bodies (subject ∷ others) (input_lines (bytes ++ rest)) ≡ body_text subject bytes ∷ bodies others (input_lines rest)
unfolding bodies body_text lines_after
one_answered subject others bytes rest x =
    let cut = one_more bytes x.line rest x.whole x refl in
    let own : input_lines bytes ≡ x.line ∷ [] = line_cut [] x.line [] x.whole x.no_lf in
    ap (λ (ls : List (List ℕ)). bodies (subject ∷ others) ls) cut
    ∙ ap (λ (b : List ℕ). b ∷ bodies others (input_lines rest)) (sym (ap (λ (ls : List (List ℕ)). body_where (places_of (first_word (first_line ls))) subject (first_line ls) (drop 1 ls)) own))

-- an answer, after the subject of its question
abbrev Said : Type 0
Said = Subject × Answer

answered : (said : List Said) (missing : List Subject) → AllByRecursion (λ (a : Said). IsLineText (text a.1)) said
    → bodies (map (λ (a : Said). a.0) said ++ missing) (input_lines (session_text (map (λ (a : Said). a.1) said)))
    ≡ map (λ (a : Said). body_text a.0 (text a.1)) said ++ map (λ subject. body_text subject []) missing
answered [] missing lines = none_answered missing
answered (a ∷ said) missing lines =
    one_answered a.0 (map (λ (b : Said). b.0) said ++ missing) (text a.1) (session_text (map (λ (b : Said). b.1) said)) lines.0
    ∙ ap (λ (later : List (List ℕ)). body_text a.0 (text a.1) ∷ later) (answered said missing lines.1)

pub answered_by_bodies : IsAnsweredByBodies
unfolding bulk_text
answered_by_bodies said missing lines =
    ap (λ (bs : List (List ℕ)). codes "{\"replies\":[" ++ (separated [] bs ++ codes "]}\n")) (answered said missing lines)
