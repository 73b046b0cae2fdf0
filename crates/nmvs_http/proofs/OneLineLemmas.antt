-- The fields of a question of JSON are those of one line.
use Rattle.std.proofs.Common.{◌≡◌, ◌≢◌, ◌+◌, ◌==◌, ◌&&◌, ◌||◌, not, ℕ, zero, suc, Bool, true, false, List, [], ◌∷◌, ◌++◌, length, get_or, Option, Some, None, Result, Ok, Err, codes, cond, refl, sym, ap, ◌∙◌, subst, arith, append_assoc}
use Rattle.std.specs.Prelude.{IsSomeAnd, option_and_then, option_map}
use Rattle.std.specs.Char.{is_ascii_graphic}
use Rattle.std.specs.List.{list_all, AllByRecursion}
use Rattle.std.proofs.lemmas.Bool.{and_parts}
use Rattle.std.proofs.lemmas.Bool.Decides.{nat_tests}
use Rattle.std.proofs.lemmas.List.Elements.{All-from_recursion}
use Rattle.std.proofs.lemmas.List.Splits.{slice_split_at, slice_split_none}
use Rattle.std.proofs.lemmas.Option.{same_Some}
use Rattle.json.specs.Find.{as_str, get}
use Rattle.json.specs.Json.{Json}
use Rattle.nmvs_identifier.proofs.PlainTexts.{is_plain, all_weaker, plain_tag}
use Rattle.nmvs_words.specs.Kinds.{kind_word}
use Rattle.nmvs_words.specs.Words.{followed, spaced}
use Rattle.nmvs_words.proofs.PlainWords.{word_plain}
use Rattle.nmvs_stream.specs.InputLines.{HasNoLf, input_lines, lines_after}
use Rattle.nmvs_stream.proofs.LinesOfPieces.{line_cut, no_lf_both}
use Rattle.nmvs_messages.specs.Fields.{fields_in, is_space, line_of_fields}
use Rattle.nmvs_protocol.specs.Tags.{tag_of}
use Rattle.nmvs_protocol.proofs.TagLemmas.{behind_text, tag_back, unmarked}
use Rattle.nmvs_json.specs.declared.asked_kind.AskedKind.{AskedKind}
use Rattle.nmvs_json.specs.declared.asked_kind.AskedKind.TheVariants.{Question, Report}
use Rattle.nmvs_json.specs.declared.refusal.Refusal.{Refusal}
use Rattle.nmvs_json.specs.declared.question_fault.QuestionFault.TheVariants as fault
use Rattle.nmvs_json.specs.declared.subject.Subject.{Subject}
use Rattle.nmvs_json.specs.Questions.{as_field, as_user, condition_texts, count_of, fields_of, has_condition, has_scan, has_scanned, is_field, is_key, is_matching, is_misread, key_text, line_of, line_of_object, name_texts, names_of, object_in, pack_texts, placed, printed_texts, question_line, said_in, scan_printed, scan_values, subject_in, scanned_of, shown_texts, string_of, subject_count, subject_of, text_of, texts_of, user_of, with_subject, word_of, wrong_member, values_in}
use Rattle.nmvs_json.specs.Refusals.{whole}
use Rattle.nmvs_json.specs.Scans.{Scanned, scan_in}
use Rattle.nmvs_json.proofs.ScanLemmas.{printed_plain, texts_plain}
use Rattle.nmvs_http.specs.OneLine.{IsAskedByOneLine, IsOneLine, fields_behind, key_tag}

-- all characters are visible
abbrev pub IsGraphic : List ℕ → Type 0
IsGraphic t = list_all is_ascii_graphic t ≡ true

graphic-not_space : (b : ℕ) → is_ascii_graphic b ≡ true → is_space b ≡ false
graphic-not_space b e = grind (arith, nat_tests)

graphic-not_lf : (b : ℕ) → is_ascii_graphic b ≡ true → (b == 10) ≡ false
graphic-not_lf b e = grind (arith, nat_tests)

no_space : (t : List ℕ) → IsGraphic t → AllByRecursion (λ b. is_space b ≡ false) t
no_space [] e = tt
no_space (b ∷ bs) e = let parts = and_parts (is_ascii_graphic b) (list_all is_ascii_graphic bs) e in (graphic-not_space b parts.0, no_space bs parts.1)

plain-graphic : (t : List ℕ) → list_all is_plain t ≡ true → IsGraphic t
plain-graphic t e = all_weaker is_plain is_ascii_graphic (λ b p. (and_parts (is_ascii_graphic b) (not (b == 92)) p).0) t e

-- a line of such fields has these fields
fields_back : (f : List ℕ) (fs : List (List ℕ)) → AllByRecursion IsGraphic (f ∷ fs) → fields_in (line_of_fields (f ∷ fs)) ≡ f ∷ fs
fields_back f [] graphic = slice_split_none is_space f (All-from_recursion _ f (no_space f graphic.0))
fields_back f (g ∷ fs) graphic =
    slice_split_at is_space f 32 (line_of_fields (g ∷ fs)) (All-from_recursion _ f (no_space f graphic.0)) refl
    ∙ ap (λ (rest : List (List ℕ)). f ∷ rest) (fields_back g fs graphic.1)

-- words with spaces and LF are the line of these fields, and LF
followed_line : (w : List ℕ) (ws : List (List ℕ)) → w ++ followed ws ≡ line_of_fields (w ∷ ws) ++ 10 ∷ []
followed_line w [] = refl
followed_line w (x ∷ ws) = ap (λ (t : List ℕ). w ++ 32 ∷ t) (followed_line x ws) ∙ sym (append_assoc w (32 ∷ line_of_fields (x ∷ ws)) (10 ∷ []))

-- no LF is in it
lf_is_none : (b : ℕ) → (b == 10) ≡ false → b ≢ 10
lf_is_none b e is = let f : (10 == 10) ≡ false = subst (λ (n : ℕ). (n == 10) ≡ false) is e in absurd (cc f)

no_lf_field : (t : List ℕ) → IsGraphic t → HasNoLf t
no_lf_field [] e k within is = omega (arith, within)
no_lf_field (b ∷ bs) e zero within is = lf_is_none b (graphic-not_lf b (and_parts (is_ascii_graphic b) (list_all is_ascii_graphic bs) e).0) is
no_lf_field (b ∷ bs) e (suc k) within is = no_lf_field bs (and_parts (is_ascii_graphic b) (list_all is_ascii_graphic bs) e).1 k (omega (arith, within)) is

no_lf_space : HasNoLf (32 ∷ [])
no_lf_space zero within is = omega (arith, is)
no_lf_space (suc k) within is = omega (arith, within)

no_lf_line : (f : List ℕ) (fs : List (List ℕ)) → AllByRecursion IsGraphic (f ∷ fs) → HasNoLf (line_of_fields (f ∷ fs))
no_lf_line f [] graphic = no_lf_field f graphic.0
no_lf_line f (g ∷ fs) graphic =
    no_lf_both f (32 ∷ line_of_fields (g ∷ fs)) (no_lf_field f graphic.0)
    (no_lf_both (32 ∷ []) (line_of_fields (g ∷ fs)) no_lf_space (no_lf_line g fs graphic.1))

no_lf_key : (key : Option (List ℕ)) → is_key key ≡ true → HasNoLf (key_text key)
no_lf_key None e = λ k within is. omega (arith, within)
no_lf_key (Some key) e = no_lf_both (35 ∷ key) (32 ∷ []) (no_lf_field (35 ∷ key) (plain-graphic key (plain_tag key e).2)) no_lf_space

-- a text and LF are one line
one_line : (x : List ℕ) → HasNoLf x → input_lines (x ++ 10 ∷ []) ≡ x ∷ []
unfolding lines_after
one_line x none = line_cut [] x [] refl none

-- the texts of members are such fields
field_back : (o : Option (List ℕ)) (t : List ℕ) → as_field o ≡ Some t → IsGraphic t
field_back None t e = absurd (cc e)
field_back (Some s) t e = by (is_field s) refl e
  where
    by : (b : Bool) → is_field s ≡ b → cond b (Some s) None ≡ Some t → IsGraphic t
    by false p e = absurd (cc e)
    by true p e = subst IsGraphic (same_Some s t e) (and_parts (not (length s == 0)) (list_all is_ascii_graphic s) p).1

texts_graphic : (names : List (List ℕ)) (j : Json) (ts : List (List ℕ)) → texts_of names j ≡ Some ts → AllByRecursion IsGraphic ts
texts_graphic [] j ts e = subst (λ (us : List (List ℕ)). AllByRecursion IsGraphic us) (same_Some [] ts e) tt
texts_graphic (n ∷ ns) j ts e = by (text_of n j) refl (texts_of ns j) (texts_graphic ns j) e
  where
    by : (o : Option (List ℕ)) → text_of n j ≡ o → (r : Option (List (List ℕ))) → ((us : List (List ℕ)) → r ≡ Some us → AllByRecursion IsGraphic us) → option_and_then (λ t. option_map (λ us. t ∷ us) r) o ≡ Some ts → AllByRecursion IsGraphic ts
    by None p r q e = absurd (cc e)
    by (Some t) p None q e = absurd (cc e)
    by (Some t) p (Some us) q e =
        subst (λ (us : List (List ℕ)). AllByRecursion IsGraphic us) (same_Some (t ∷ us) ts e) (field_back (option_and_then as_str (get n j)) t p, q us refl)

all_graphic : (ts : List (List ℕ)) → AllByRecursion (λ (t : List ℕ). list_all is_plain t ≡ true) ts → AllByRecursion IsGraphic ts
all_graphic [] plain = tt
all_graphic (t ∷ ts) plain = (plain-graphic t plain.0, all_graphic ts plain.1)

all_both : (ts us : List (List ℕ)) → AllByRecursion IsGraphic ts → AllByRecursion IsGraphic us → AllByRecursion IsGraphic (ts ++ us)
all_both [] us a b = b
all_both (t ∷ ts) us a b = (a.0, all_both ts us a.1 b)

names_graphic : (kind : AskedKind) (j : Json) (ts : List (List ℕ)) → name_texts kind j ≡ Some ts → AllByRecursion IsGraphic ts
names_graphic kind j ts e = by (has_scan kind j) (string_of (codes "scan") j) e
  where
    by : (b : Bool) (o : Option (List ℕ)) → cond b (option_map (λ scan. pack_texts (scan_in scan)) o) (texts_of (names_of kind) j) ≡ Some ts → AllByRecursion IsGraphic ts
    by true None e = absurd (cc e)
    by true (Some scan) e = subst (λ (us : List (List ℕ)). AllByRecursion IsGraphic us) (same_Some (pack_texts (scan_in scan)) ts e) (all_graphic (pack_texts (scan_in scan)) (texts_plain scan))
    by false o e = texts_graphic (names_of kind) j ts e

-- and so are those of the member scanned, and the values of a scan
said_graphic : (v : Json) (ts : List (List ℕ)) → said_in v ≡ Some ts → AllByRecursion IsGraphic ts
said_graphic v ts e = by (count_of v == 2) e
  where
    by : (b : Bool) → cond b (texts_of (codes "batch" ∷ codes "expiry" ∷ []) v) None ≡ Some ts → AllByRecursion IsGraphic ts
    by false e = absurd (cc e)
    by true e = texts_graphic (codes "batch" ∷ codes "expiry" ∷ []) v ts e

shown_graphic : (kind : AskedKind) (j : Json) (scanned : Option Scanned) (ts : List (List ℕ)) → scanned_of kind j ≡ Some scanned → shown_texts kind j scanned ≡ Some ts → AllByRecursion IsGraphic ts
unfolding scanned_of
shown_graphic kind j scanned ts is e = by (has_scanned kind j) (get (codes "scanned") j) is e
  where
    none : None ≡ scanned → AllByRecursion IsGraphic (printed_texts scanned)
    none same = subst (λ (s : Option Scanned). AllByRecursion IsGraphic (printed_texts s)) same (refl, (refl, tt))

    printed : (b : Bool) (o : Option (List ℕ)) → Some (cond b (option_map (λ scan. scan_printed (scan_in scan)) o) None) ≡ Some scanned → AllByRecursion IsGraphic (printed_texts scanned)
    printed false o is = none (same_Some None scanned is)
    printed true None is = none (same_Some None scanned is)
    printed true (Some scan) is =
        subst (λ (s : Option Scanned). AllByRecursion IsGraphic (printed_texts s)) (same_Some (Some (scan_printed (scan_in scan))) scanned is) (all_graphic (printed_texts (Some (scan_printed (scan_in scan)))) (printed_plain scan))

    by : (b : Bool) (r : Option Json) → cond b (option_and_then values_in r) (Some (scan_values kind j)) ≡ Some scanned → cond b (option_and_then said_in r) (Some (printed_texts scanned)) ≡ Some ts → AllByRecursion IsGraphic ts
    by true None is e = absurd (cc e)
    by true (Some v) is e = said_graphic v ts e
    by false r is e = subst (λ (us : List (List ℕ)). AllByRecursion IsGraphic us) (same_Some (printed_texts scanned) ts e) (printed (has_scan kind j) (string_of (codes "scan") j) is)

condition_graphic : (kind : AskedKind) (j : Json) (scanned : Option Scanned) (ts : List (List ℕ)) → scanned_of kind j ≡ Some scanned → condition_texts kind j scanned ≡ Some ts → AllByRecursion IsGraphic ts
unfolding condition_texts
condition_graphic kind j scanned ts is e =
    by (has_condition kind j && not (is_matching (string_of (codes "if_scanned") j))) (has_condition kind j || is_misread kind j scanned) (shown_texts kind j scanned)
    (λ us same. shown_graphic kind j scanned us is same) e
  where
    by : (refuses asks : Bool) (o : Option (List (List ℕ))) → ((us : List (List ℕ)) → o ≡ Some us → AllByRecursion IsGraphic us)
        → cond refuses None (cond asks (option_map (λ us. codes "IF" ∷ us) o) (Some [])) ≡ Some ts → AllByRecursion IsGraphic ts
    by true asks o all e = absurd (cc e)
    by false false o all e = subst (λ (us : List (List ℕ)). AllByRecursion IsGraphic us) (same_Some [] ts e) tt
    by false true None all e = absurd (cc e)
    by false true (Some us) all e = subst (λ (vs : List (List ℕ)). AllByRecursion IsGraphic vs) (same_Some (codes "IF" ∷ us) ts e) (refl, all us refl)

subject_graphic : (kind : AskedKind) (j : Json) (ts : List (List ℕ)) → subject_of kind j ≡ Some ts → AllByRecursion IsGraphic ts
unfolding subject_of
subject_graphic kind j ts e = by (name_texts kind j) refl (scanned_of kind j) refl e
  where
    on : (names : List (List ℕ)) → name_texts kind j ≡ Some names → (scanned : Option Scanned) → scanned_of kind j ≡ Some scanned → (r : Option (List (List ℕ))) → condition_texts kind j scanned ≡ r
        → option_map (λ condition. names ++ condition) r ≡ Some ts → AllByRecursion IsGraphic ts
    on names p scanned q None s e = absurd (cc e)
    on names p scanned q (Some condition) s e =
        subst (λ (us : List (List ℕ)). AllByRecursion IsGraphic us) (same_Some (names ++ condition) ts e)
        (all_both names condition (names_graphic kind j names p) (condition_graphic kind j scanned condition q s))

    by : (o : Option (List (List ℕ))) → name_texts kind j ≡ o → (r : Option (Option Scanned)) → scanned_of kind j ≡ r
        → option_and_then (λ names. option_and_then (λ scanned. option_map (λ condition. names ++ condition) (condition_texts kind j scanned)) r) o ≡ Some ts → AllByRecursion IsGraphic ts
    by None p r q e = absurd (cc e)
    by (Some names) p None q e = absurd (cc e)
    by (Some names) p (Some scanned) q e = on names p scanned q (condition_texts kind j scanned) refl e

-- the user does not begin with #
user_back : (o : Option (List ℕ)) (u : List ℕ) → as_user o ≡ Some u → (o ≡ Some u) × (get_or u 0 0 ≢ 35)
user_back None u e = absurd (cc e)
user_back (Some []) u e = (e, λ is. let n : 0 ≡ 35 = subst (λ (t : List ℕ). get_or t 0 0 ≡ 35) (sym (same_Some [] u e)) is in absurd (omega (arith, n)))
user_back (Some (c ∷ t)) u e = by (c == 35) refl e
  where
    by : (b : Bool) → (c == 35) ≡ b → cond b None (Some (c ∷ t)) ≡ Some u → (Some (c ∷ t) ≡ Some u) × (get_or u 0 0 ≢ 35)
    by true p e = absurd (cc e)
    by false p e = (e, λ is. let first : c ≡ 35 = subst (λ (t : List ℕ). get_or t 0 0 ≡ 35) (sym (same_Some (c ∷ t) u e)) is in let n : (35 == 35) ≡ false = subst (λ (n : ℕ). (n == 35) ≡ false) first p in absurd (cc n))

word_graphic : (kind : AskedKind) → IsGraphic (word_of kind)
word_graphic (Question kind) = plain-graphic (kind_word kind) (word_plain kind).2
word_graphic Report = refl

-- the fields of a question: a user that does not begin with #, the word, and texts
pub record AreFields (fields : List (List ℕ)) : Type 0 where
  pub user : List ℕ
  pub word : List ℕ
  pub texts : List (List ℕ)
  pub are : user ∷ word ∷ texts ≡ fields
  pub unmarked_user : get_or user 0 0 ≢ 35
  pub graphic : AllByRecursion IsGraphic (user ∷ word ∷ texts)

pub are_fields : (others : ℕ) (kind : AskedKind) (j : Json) (fields : List (List ℕ)) → fields_of others kind j ≡ Some fields → AreFields fields
unfolding fields_of
are_fields others kind j fields e = by (count_of j == others + subject_count kind j) (user_of j) refl (subject_of kind j) refl e
  where
    by : (b : Bool) (o : Option (List ℕ)) → user_of j ≡ o → (r : Option (List (List ℕ))) → subject_of kind j ≡ r
        → cond b (option_and_then (λ user. option_map (λ texts. user ∷ word_of kind ∷ texts) r) o) None ≡ Some fields → AreFields fields
    by false o p r q e = absurd (cc e)
    by true None p r q e = absurd (cc e)
    by true (Some user) p None q e = absurd (cc e)
    by true (Some user) p (Some texts) q e =
        let is = user_back (text_of (codes "user") j) user p in record {
          user = user;
          word = word_of kind;
          texts = texts;
          are = same_Some (user ∷ word_of kind ∷ texts) fields e;
          unmarked_user = is.1;
          graphic = (field_back (option_and_then as_str (get (codes "user") j)) user is.0, (word_graphic kind, subject_graphic kind j texts q));
        }

-- the fields come after the tag that the key is
first_byte : (user rest : List ℕ) → get_or user 0 0 ≢ 35 → get_or (user ++ 32 ∷ rest) 0 0 ≢ 35
first_byte [] rest other is = omega (arith, is)
first_byte (c ∷ cs) rest other is = other is

tagged : (key : Option (List ℕ)) (user rest : List ℕ) → is_key key ≡ true → get_or user 0 0 ≢ 35 → tag_of (key_text key ++ (user ++ 32 ∷ rest)) ≡ key_tag key
tagged None user rest e other = unmarked (user ++ 32 ∷ rest) (first_byte user rest other)
tagged (Some key) user rest e other = tag_back (record { bytes = key }) (user ++ 32 ∷ rest) e

behind : (key : Option (List ℕ)) (line : List ℕ) (fields : List (List ℕ)) → fields_in line ≡ fields → fields_behind (key_tag key) (key_text key ++ line) ≡ fields
behind None line fields e = e
behind (Some key) line fields e = ap fields_in (behind_text (record { bytes = key }) line) ∙ e

-- a line of these fields after this key, and LF
pub record IsLine (bytes : List ℕ) (key : Option (List ℕ)) (fields : List (List ℕ)) : Type 0 where
  pub line : List ℕ
  pub whole : bytes ≡ line ++ 10 ∷ []
  pub no_lf : HasNoLf line
  pub tagged : tag_of line ≡ key_tag key
  pub behind : fields_behind (key_tag key) line ≡ fields

pub is_line : (key : Option (List ℕ)) (fields : List (List ℕ)) (bytes : List ℕ) → is_key key ≡ true → AreFields fields → key_text key ++ spaced fields ≡ bytes → IsLine bytes key fields
is_line key fields bytes e a is =
    let own = line_of_fields (a.user ∷ a.word ∷ a.texts) in record {
      line = key_text key ++ own;
      whole =
          sym is ∙ ap (λ (fs : List (List ℕ)). key_text key ++ spaced fs) (sym a.are) ∙ ap (λ (t : List ℕ). key_text key ++ t) (followed_line a.user (a.word ∷ a.texts)) ∙ sym (append_assoc (key_text key) own (10 ∷ []));
      no_lf = no_lf_both (key_text key) own (no_lf_key key e) (no_lf_line a.user (a.word ∷ a.texts) a.graphic);
      tagged = tagged key a.user (line_of_fields (a.word ∷ a.texts)) e a.unmarked_user;
      behind = behind key own fields (fields_back a.user (a.word ∷ a.texts) a.graphic ∙ a.are);
    }

is_one_line : (key : Option (List ℕ)) (fields : List (List ℕ)) (bytes : List ℕ) → IsLine bytes key fields → IsOneLine bytes (key_tag key) fields
is_one_line key fields bytes l = record { line = l.line; one = ap input_lines l.whole ∙ one_line l.line l.no_lf; tagged = l.tagged; behind = l.behind }

abbrev line_or_none : Result (Subject × List ℕ) Refusal → List ℕ
line_or_none (Ok question) = question.1
line_or_none (Err f) = []

pub asked_by_one_line : IsAskedByOneLine
unfolding question_line
asked_by_one_line kind key body question e = by (is_key key) refl (object_in body) e
  where
    on : (j : Json) (r : Option (List (List ℕ))) → fields_of 1 kind j ≡ r → is_key key ≡ true → with_subject (subject_in kind j) (placed (wrong_member kind j) (line_of key r)) ≡ Ok question → IsSomeAnd r (λ fields. IsOneLine question.1 (key_tag key) fields)
    on j None p k e = absurd (cc e)
    on j (Some fields) p k e = is_one_line key fields question.1 (is_line key fields question.1 k (are_fields 1 kind j fields p) (ap line_or_none e))

    by : (b : Bool) → is_key key ≡ b → (o : Option Json) → cond b (line_of_object kind key o) (Err (whole fault.Key)) ≡ Ok question
        → IsSomeAnd o (λ object. IsSomeAnd (fields_of 1 kind object) (λ fields. IsOneLine question.1 (key_tag key) fields))
    by false k o e = absurd (cc e)
    by true k None e = absurd (cc e)
    by true k (Some j) e = on j (fields_of 1 kind j) refl k e
