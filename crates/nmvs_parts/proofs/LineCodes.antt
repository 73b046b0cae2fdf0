-- The product code of an entry stands in the entry's line where it is looked for.
use Rattle.std.proofs.Common.{◌≡◌, ◌⊎◌, inl, inr, ◌+◌, ◌<◌, ◌≤◌, ◌%◌, ◌^◌, ◌==◌, ◌&&◌, Bool, not, true, false, ℕ, zero, suc, List, [], ◌∷◌, ◌++◌, length, map, take, drop, refl, sym, ap, ◌∙◌, cond, decimal, arith, append_assoc, Some, None}
use Rattle.std.specs.Prelude.{nat_le, slice_index, IsUtf8}
use Rattle.std.specs.Char.{is_ascii_digit}
use Rattle.std.specs.List.{list_all, flat_map}
use Rattle.std.proofs.lemmas.Bool.{and_parts, cases_eq, ne_eqb, eqb-true, leb-true}
use Rattle.std.proofs.lemmas.Bool.Decides.{nat_tests}
use Rattle.std.proofs.lemmas.List.Folds.{list_all-append}
use Rattle.std.proofs.lemmas.Fmt.{decimal_by_steps}
use Rattle.std.proofs.Math.Seq.{take-append_seam}
use Rattle.nmvs_identifier.specs.Characters.{is_name_character}
use Rattle.nmvs_identifier.specs.Name.{is_name, begins_alphanumeric, has_name_characters}
use Rattle.nmvs_identifier.specs.Texts.{longest_text}
use Rattle.nmvs_identifier.specs.ProductCode.{is_product_code, is_checked}
use Rattle.nmvs_identifier.proofs.PlainTexts.{all_weaker}
use Rattle.nmvs_rules.specs.declared.role.Role.{Role}
use Rattle.nmvs_rules.specs.declared.role.Role.TheVariants as role
use Rattle.nmvs_rules.specs.declared.question.Question.{Question}
use Rattle.nmvs_rules.specs.declared.question.Question.TheVariants.{Upload, OfPack, OfBatch}
use Rattle.nmvs_rules.specs.declared.put.Put.{Put}
use Rattle.nmvs_rules.specs.declared.entry.Entry.{Entry}
use Rattle.nmvs_rules.specs.Entries.{is_actor, is_question, is_put, is_reply, is_entry}
use Rattle.nmvs_rules.specs.Questions.{code_of}
use Rattle.nmvs_words.specs.declared.question_kind.QuestionKind.{QuestionKind}
use Rattle.nmvs_words.specs.Kinds.{kind_of, kind_word, texts_of}
use Rattle.nmvs_words.proofs.WordLemmas.{every_kind}
use Rattle.nmvs_words.specs.Words.{role_word}
use Rattle.nmvs_line.specs.declared.line_version.LineVersion.{LineVersion}
use Rattle.nmvs_line.specs.declared.line_version.LineVersion.TheVariants as version
use Rattle.nmvs_line.specs.Line.{longest_line, escaped, quoted, bracketed, reply_items, line_in, behind as items_behind}
use Rattle.nmvs_line.specs.Items.{is_no_mark, led, opened, front}
use Rattle.nmvs_line.proofs.EntryParts.{parts_of}
use Rattle.nmvs_line.proofs.LineLengths.{length-line_in}
use Rattle.nmvs_line.proofs.Composing.{escaped-by-test, bracketed-opened, led-opened, back, line_in-front}
use Rattle.nmvs_reader.proofs.NoLf.{is_seen, seen_utf8}
use Rattle.nmvs_shard.specs.Placing.{shard_of}
use Rattle.nmvs_parts.specs.Part.{PartView, behind, code_text, as_code, code_in, is_others, is_others_code}

-- ---- the bytes after the first of a byte

lacks : ℕ → ℕ → Bool
lacks byte b = not (b == byte)

not_true : (b : Bool) → not b ≡ true → b ≡ false
not_true true h = sym h
not_true false h = refl

behind-first : (byte : ℕ) (xs ys : List ℕ) → list_all (λ b. not (b == byte)) xs ≡ true → behind byte (xs ++ byte ∷ ys) ≡ ys
behind-first byte [] ys h = let here : (byte == byte) ≡ true = grind (arith, nat_tests) in ap (λ b. cond b ys (behind byte ys)) here
behind-first byte (x ∷ xs) ys h =
    let parts = and_parts (not (x == byte)) (list_all (λ b. not (b == byte)) xs) h in
    ap (λ b. cond b (xs ++ byte ∷ ys) (behind byte (xs ++ byte ∷ ys))) (not_true (x == byte) parts.0) ∙ behind-first byte xs ys parts.1

-- .. are those after its place
pub behind-at : (byte : ℕ) (bytes : List ℕ) (k : ℕ) → k < length bytes → ((j : ℕ) → j < k → ¬ ((slice_index bytes j == byte) ≡ true)) → (slice_index bytes k == byte) ≡ true
    → drop (k + 1) bytes ≡ behind byte bytes
behind-at byte [] k lt before here = absurd (omega (arith, lt))
behind-at byte (b ∷ bs) zero lt before here = ap (λ c. cond c bs (behind byte bs)) (sym here)
behind-at byte (b ∷ bs) (suc k) lt before here = by (b == byte) refl (behind-at byte bs k (omega (arith, lt)) (λ j l. before (suc j) (omega (arith, l))) here)
  where
    by : (c : Bool) → (b == byte) ≡ c → drop (k + 1) bs ≡ behind byte bs → drop (suc k + 1) (b ∷ bs) ≡ behind byte (b ∷ bs)
    by true is rest = absurd (before 0 (omega arith) is)
    by false is rest =
        let more : suc k + 1 ≡ suc (k + 1) = omega arith in
        ap (λ n. drop n (b ∷ bs)) more ∙ rest ∙ ap (λ c. cond c bs (behind byte bs)) (sym is)

pub behind-none : (byte : ℕ) (bytes : List ℕ) → ((j : ℕ) → j < length bytes → ¬ ((slice_index bytes j == byte) ≡ true)) → [] ≡ behind byte bytes
behind-none byte [] none = refl
behind-none byte (b ∷ bs) none = by (b == byte) refl (behind-none byte bs (λ j l. none (suc j) (omega (arith, l))))
  where
    by : (c : Bool) → (b == byte) ≡ c → [] ≡ behind byte bs → [] ≡ behind byte (b ∷ bs)
    by true is rest = absurd (none 0 (omega arith) is)
    by false is rest = rest ∙ ap (λ c. cond c bs (behind byte bs)) (sym is)

-- a product code is UTF-8
digit-seen : (b : ℕ) → is_ascii_digit b ≡ true → is_seen b ≡ true
digit-seen b h = grind (arith, nat_tests)

pub no-code : (t : List ℕ) → ¬ (IsUtf8 t) → None ≡ as_code t
no-code t no_text = by (is_product_code t) refl
  where
    by : (c : Bool) → is_product_code t ≡ c → None ≡ as_code t
    by true is =
        let a = and_parts ((length t == 14) && list_all is_ascii_digit t) (is_checked t) is in
        let b = and_parts (length t == 14) (list_all is_ascii_digit t) a.0 in
        absurd (no_text (seen_utf8 t (all_weaker is_ascii_digit is_seen digit-seen t b.1)))
    by false is = ap (λ c. cond c (Some (record { bytes = t })) None) (sym is)

-- ---- the front of a line has no bracket but its first

abbrev no_bracket : ℕ → Bool
no_bracket b = not (b == 91)

abbrev HasNoBracket : List ℕ → Type 0
HasNoBracket t = list_all no_bracket t ≡ true

both : (xs ys : List ℕ) → HasNoBracket xs → HasNoBracket ys → HasNoBracket (xs ++ ys)
both xs ys p q = list_all-append no_bracket xs ys ∙ (λ i. p i && q i)

escaped-free : (t : List ℕ) → HasNoBracket t → HasNoBracket (flat_map escaped t)
escaped-free [] h = refl
escaped-free (x ∷ t) h =
    let p = and_parts (no_bracket x) (list_all no_bracket t) h in
    both (escaped x) (flat_map escaped t) (go (x == 34) p.0) (escaped-free t p.1)
  where
    go : (b : Bool) → no_bracket x ≡ true → HasNoBracket (cond b (92 ∷ 34 ∷ []) (x ∷ []))
    go true k = refl
    go false k = λ i. k i && true

led-free : (t : List ℕ) (more : List (List ℕ)) → HasNoBracket t → HasNoBracket (led more) → HasNoBracket (led (quoted t ∷ more))
led-free t more h k = both (flat_map escaped t ++ 34 ∷ []) (led more) (both (flat_map escaped t) (34 ∷ []) (escaped-free t h) refl) k

name_character-free : (b : ℕ) → is_name_character b ≡ true → no_bracket b ≡ true
name_character-free b h = go (cases_eq b 91)
  where
    go : (b ≡ 91) ⊎ (b ≡ 91 → ⊥) → no_bracket b ≡ true
    go (inl is) = let wrong : false ≡ true = sym (ap is_name_character is) ∙ h in absurd cc
    go (inr apart) = ap not (ne_eqb b 91 apart)

name-free : (t : List ℕ) → is_name t ≡ true → HasNoBracket t
name-free t h =
    let a = and_parts (nat_le 1 (length t) && nat_le (length t) longest_text) (has_name_characters t) h in
    let c = and_parts (begins_alphanumeric t) (list_all is_name_character t) a.1 in
    all_weaker is_name_character no_bracket name_character-free t c.1

role-free : (r : Role) → HasNoBracket (role_word r)
role-free role.Holder = refl
role-free role.Manufacturer = refl
role-free role.Wholesaler = refl
role-free role.Pharmacy = refl
role-free role.Authority = refl

digit-free : (n : ℕ) → n < 10 → no_bracket (48 + n) ≡ true
digit-free n h = grind (arith, nat_tests)

decimal-free : (n : ℕ) → n < 2 ^ 64 → HasNoBracket (decimal n)
decimal-free n h =
    decimal_by_steps (λ m ds. HasNoBracket ds) (λ m l. λ i. digit-free m l i && true)
    (λ m ds l k. both ds ((48 + m % 10) ∷ []) k (λ i. digit-free (m % 10) (omega arith) i && true)) n h

-- the beginning of a line behind its bracket
abbrev opened_as : LineVersion → List ℕ
opened_as version.One = []
opened_as version.Two = 50 ∷ 44 ∷ []
opened_as version.Three = 51 ∷ 44 ∷ []

abbrev texts_of_put : Put → List (List ℕ)
texts_of_put q = map quoted (q.user.bytes ∷ role_word q.actor.role ∷ q.actor.authorisation.bytes ∷ q.actor.premises.bytes ∷ [])

abbrev inside : LineVersion → Put → List ℕ
inside v q = opened_as v ++ (decimal q.moment ++ led (texts_of_put q))

front-opened : (v : LineVersion) (q : Put) → front v q ≡ 91 ∷ inside v q
front-opened version.One q = refl
front-opened version.Two q = refl
front-opened version.Three q = refl

opened_as-free : (v : LineVersion) → HasNoBracket (opened_as v)
opened_as-free version.One = refl
opened_as-free version.Two = refl
opened_as-free version.Three = refl

inside-free : (v : LineVersion) (e : Entry) → is_entry e ≡ true → HasNoBracket (inside v e.put)
inside-free v e h =
    let a = and_parts (is_put e.put) (is_reply e.reply) h in
    let b = and_parts _ _ a.0 in
    let c = and_parts (is_name e.put.user.bytes) _ b.1 in
    let d = and_parts (is_actor e.put.actor) _ c.1 in
    let f = and_parts (is_name e.put.actor.authorisation.bytes) (is_name e.put.actor.premises.bytes) d.0 in
    let low = leb-true e.put.moment 4_102_444_799 b.0 in
    let small : e.put.moment < 2 ^ 64 = omega (arith, low) in
    let q = e.put in
    let last = led-free q.actor.premises.bytes [] (name-free q.actor.premises.bytes f.1) refl in
    let third = led-free q.actor.authorisation.bytes (quoted q.actor.premises.bytes ∷ []) (name-free q.actor.authorisation.bytes f.0) last in
    let second = led-free (role_word q.actor.role) (quoted q.actor.authorisation.bytes ∷ quoted q.actor.premises.bytes ∷ []) (role-free q.actor.role) third in
    let names = led-free q.user.bytes (quoted (role_word q.actor.role) ∷ quoted q.actor.authorisation.bytes ∷ quoted q.actor.premises.bytes ∷ []) (name-free q.user.bytes c.0) second in
    both (opened_as v) (decimal q.moment ++ led (texts_of_put q)) (opened_as-free v) (both (decimal q.moment) (led (texts_of_put q)) (decimal-free q.moment small) names)

-- ---- the question

word-plain : (k : QuestionKind) → list_all is_no_mark (kind_word k) ≡ true
word-plain k = every_kind (λ k. list_all is_no_mark (kind_word k)) refl k

-- the texts of a question begin with its product code
record Named (q : Question) : Type 0 where
  pub more : List (List ℕ)
  pub texts : texts_of q ≡ (code_of q).bytes ∷ more
  pub code : is_product_code (code_of q).bytes ≡ true

named : (q : Question) → is_question q ≡ true → Named q
named (Upload p b x) h = let r = and_parts _ _ (and_parts _ _ h).0 in record { more = p.serial.bytes ∷ b.bytes ∷ x.bytes ∷ []; texts = refl; code = r.0 }
named (OfPack _ p) h = record { more = p.serial.bytes ∷ []; texts = refl; code = (and_parts _ _ h).0 }
named (OfBatch _ c b) h = record { more = b.bytes ∷ []; texts = refl; code = (and_parts _ _ h).0 }

digit-plain : (b : ℕ) → is_ascii_digit b ≡ true → is_no_mark b ≡ true
digit-plain b h = grind (arith, nat_tests)

-- 14 digits, which are written as they are
code-plain : (t : List ℕ) → is_product_code t ≡ true → (14 ≡ length t) × (flat_map escaped t ≡ t)
code-plain t h =
    let a = and_parts _ (is_checked t) h in
    let b = and_parts (length t == 14) (list_all is_ascii_digit t) a.0 in
    (sym (eqb-true (length t) 14 b.0), escaped-by-test t (all_weaker is_ascii_digit is_no_mark digit-plain t b.1))

-- the bytes of a question behind its quotation mark
question-code : (q : Question) (rest : List ℕ) → is_question q ≡ true
    → take 14 (drop 2 (behind 34 ((opened (kind_word (kind_of q)) (texts_of q) ++ 93 ∷ []) ++ rest))) ≡ (code_of q).bytes
question-code q rest h =
    let n = named q h in
    let word = kind_word (kind_of q) in
    let code = (code_of q).bytes in
    let plain = code-plain code n.code in
    let last : List ℕ = 34 ∷ led (map quoted n.more) in
    let texts : List ℕ = led (map quoted (texts_of q)) in
    let begins : (opened word (texts_of q) ++ 93 ∷ []) ++ rest ≡ word ++ 34 ∷ (texts ++ (93 ∷ [] ++ rest)) =
    ap (λ (w : List ℕ). ((w ++ 34 ∷ texts) ++ 93 ∷ []) ++ rest) (escaped-by-test word (word-plain (kind_of q)))
    ∙ append_assoc (word ++ 34 ∷ texts) (93 ∷ []) rest ∙ append_assoc word (34 ∷ texts) (93 ∷ [] ++ rest) in
    let first : texts ≡ 44 ∷ 34 ∷ (code ++ last) =
    ap (λ (ts : List (List ℕ)). led (map quoted ts)) n.texts ∙ led-opened code n.more ∙ ap (λ (c : List ℕ). 44 ∷ 34 ∷ (c ++ last)) plain.1 in
    ap (λ (t : List ℕ). take 14 (drop 2 (behind 34 t))) begins
    ∙ ap (λ (t : List ℕ). take 14 (drop 2 t)) (behind-first 34 word (texts ++ (93 ∷ [] ++ rest)) (word-plain (kind_of q)))
    ∙ ap (λ (t : List ℕ). take 14 (drop 2 (t ++ (93 ∷ [] ++ rest)))) first
    ∙ ap (take 14) (append_assoc code last (93 ∷ [] ++ rest))
    ∙ ap (λ n. take n (code ++ (last ++ (93 ∷ [] ++ rest)))) plain.0
    ∙ take-append_seam code (last ++ (93 ∷ [] ++ rest))

-- the code of a line of an entry
code_text-line : (v : LineVersion) (e : Entry) → is_entry e ≡ true → code_text (line_in v e) ≡ (code_of e.put.question).bytes
code_text-line v e h =
    let q = e.put.question in
    let in_range = parts_of e h in
    let reply : List ℕ = 44 ∷ (bracketed (reply_items e.reply) ++ (led (items_behind v e.put) ++ 93 ∷ [])) in
    let text : List ℕ = (opened (kind_word (kind_of q)) (texts_of q) ++ 93 ∷ []) ++ reply in
    let whole : line_in v e ≡ 91 ∷ ((inside v e.put ++ 44 ∷ []) ++ 91 ∷ 34 ∷ text) =
    line_in-front v e ∙ ap (λ (t : List ℕ). t ++ back v e) (front-opened v e.put)
    ∙ ap (λ (t : List ℕ). 91 ∷ (inside v e.put ++ 44 ∷ (t ++ reply))) (bracketed-opened (kind_word (kind_of q)) (texts_of q))
    ∙ ap (λ (t : List ℕ). 91 ∷ t) (sym (append_assoc (inside v e.put) (44 ∷ []) (91 ∷ 34 ∷ text))) in
    ap code_text whole
    ∙ ap (λ (t : List ℕ). take 14 (drop 2 (behind 34 (drop 1 t)))) (behind-first 91 (inside v e.put ++ 44 ∷ []) (34 ∷ text) (both (inside v e.put) (44 ∷ []) (inside-free v e h) refl))
    ∙ question-code q reply in_range.question

-- a line of an entry is another part's exactly if its product code is
pub others-line : (part : PartView) (v : LineVersion) (e : Entry) → is_entry e ≡ true → is_others part (line_in v e) ≡ not (shard_of part.count (code_of e.put.question) == part.index)
others-line part v e h =
    let short = leb-of (length (line_in v e)) longest_line (length-line_in v e h) in
    let code = code_text-line v e h in
    let n = named e.put.question (parts_of e h).question in
    let is : code_in (line_in v e) ≡ Some (code_of e.put.question) = ap as_code code ∙ ap (λ b. cond b (Some (code_of e.put.question)) None) n.code in
    (λ i. short i && is_others_code part (is i))
  where
    leb-of : (m n : ℕ) → m ≤ n → nat_le m n ≡ true
    leb-of m n le = grind (arith, nat_tests)
