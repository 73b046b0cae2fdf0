-- The text of a line is read as it, and is the text of no other line.
use Rattle.std.proofs.Common.{◌≡◌, ◌≢◌, ◌≤◌, ◌<◌, ◌-◌, ◌==◌, ◌&&◌, ◌||◌, not, ℕ, true, false, List, [], ◌∷◌, ◌++◌, length, map, take, drop, get_or, codes, Bor, Option, Some, None, inl, inr, refl, sym, ap, ◌∙◌, lit≤, cond, arith, Result, Ok, Err}
use Rattle.std.specs.Prelude.{IfOk, MatchResult, IsTrue}
use Rattle.std.specs.List.{AllByRecursion}
use Rattle.std.proofs.lemmas.Bool.{and_parts, ne_eqb, cases_lt, false_from_ne_true}
use Rattle.std.proofs.lemmas.Slice.Eq.{bytes_eq-Decides}
use Rattle.std.specs.Str.{bytes_eq}
use Rattle.std.proofs.lemmas.List.{take_all, length-take, length-append, drop_at}
use Rattle.std.proofs.lemmas.Bool.Decides.{nat_tests}
use Rattle.nmvs_identifier.specs.Name.{Name, is_name}
use Rattle.nmvs_identifier.specs.ProductCode.{ProductCode, is_product_code}
use Rattle.nmvs_identifier.specs.declared.pack.Pack.{Pack}
use Rattle.nmvs_rules.specs.declared.printed.Printed.{Printed}
use Rattle.nmvs_rules.specs.declared.question.Question.{Question}
use Rattle.nmvs_rules.specs.declared.question.Question.TheVariants as question
use Rattle.nmvs_rules.specs.declared.pack_question.PackQuestion.{PackQuestion}
use Rattle.nmvs_words.specs.declared.question_kind.QuestionKind.{QuestionKind}
use Rattle.nmvs_words.specs.declared.question_kind.QuestionKind.TheVariants.{Upload, OfPack, OfBatch}
use Rattle.nmvs_words.specs.Kinds.{kind_of, kind_word, kind_named, texts_of}
use Rattle.nmvs_words.proofs.WordLemmas.{kind_named-of_word, kind_word-one}
use Rattle.nmvs_messages.specs.declared.ask.Asked.{Asked}
use Rattle.nmvs_messages.specs.declared.ask.Asked.TheVariants as asked
use Rattle.nmvs_messages.specs.declared.ask.Line.{Line}
use Rattle.nmvs_messages.specs.declared.ask.Line.TheVariants as lines
use Rattle.nmvs_messages.specs.declared.ask.LineFault.TheVariants as fault
use Rattle.nmvs_messages.specs.declared.ask.LineFault.{LineFault}
use Rattle.nmvs_messages.specs.declared.ask.Unread.{Unread}
use Rattle.nmvs_messages.specs.Fields.{fields_in, line_of_fields, line_fault}
use Rattle.nmvs_messages.specs.Tags.{tag_text}
use Rattle.nmvs_protocol.specs.Tags.{tag_of, behind_tag}
use Rattle.nmvs_identifier.specs.Tag.{Tag}
use Rattle.nmvs_rules.specs.Entries.{is_tag_or_none}
use Rattle.nmvs_protocol.specs.Lines.{asked_fields, line_tag, fields, line_text, report_word, Grammar, grammars, if_word, pack_grammars, report_grammars, all_read, first_misread, texts_fault, pack_fault, question_fault, ask_fault, asked_fault, fields_fault, byte_fault, asked_line_fault, fault_behind, first_fault, is_asked, is_line, ReadsLine, OneReading, EachIsRead, OneSpelling, ShortLines}
use Rattle.nmvs_identifier.proofs.PlainTexts.{IsPlain, plain_name, plain_tag, plain_code, plain_serial, plain_batch, plain_expiry}
use Rattle.nmvs_words.proofs.PlainWords.{word_plain}
use Rattle.nmvs_protocol.proofs.QuestionLemmas.{written, same_question}
use Rattle.nmvs_messages.proofs.PlainLemmas.{IsPlainLine, plain_line, not_long, line_fault-plain}
use Rattle.nmvs_protocol.proofs.TagLemmas.{alphanumeric_name, no_tag, tag_back, tag_shown, behind_text}
use Rattle.nmvs_messages.proofs.FieldLemmas.{line_of_kept, one}

-- each text that a grammar accepts is plain
abbrev AcceptsPlain : Grammar → Type 0
AcceptsPlain g = (t : List ℕ) → g.0 t ≡ true → IsPlain t

grammars_plain : (kind : QuestionKind) → AllByRecursion AcceptsPlain (grammars kind)
grammars_plain Upload = (plain_code, (plain_serial, (plain_batch, (plain_expiry, tt))))
grammars_plain (OfPack _) = (plain_code, (plain_serial, tt))
grammars_plain (OfBatch _) = (plain_code, (plain_batch, tt))

all_read-plain : (gs : List Grammar) (ts : List (List ℕ)) → AllByRecursion AcceptsPlain gs → all_read gs ts ≡ true → AllByRecursion IsPlain ts
all_read-plain [] [] accepts e = tt
all_read-plain [] (t ∷ ts) accepts e = absurd cc
all_read-plain (g ∷ gs) [] accepts e = absurd cc
all_read-plain (g ∷ gs) (t ∷ ts) accepts e =
    let parts = and_parts (g.0 t) (all_read gs ts) e in
    (accepts.0 t parts.0, all_read-plain gs ts accepts.1 parts.1)

all_read-length : (gs : List Grammar) (ts : List (List ℕ)) → all_read gs ts ≡ true → length ts ≡ length gs
all_read-length [] [] e = refl
all_read-length [] (t ∷ ts) e = absurd cc
all_read-length (g ∷ gs) [] e = absurd cc
all_read-length (g ∷ gs) (t ∷ ts) e =
    let parts = and_parts (g.0 t) (all_read gs ts) e in
    let rest = all_read-length gs ts parts.1 in omega (arith, rest)

few_grammars : (kind : QuestionKind) → length (grammars kind) ≤ 4
few_grammars Upload = lit≤ tt
few_grammars (OfPack _) = lit≤ tt
few_grammars (OfBatch _) = lit≤ tt

-- a line of a user, a word and texts in their grammars is made of plain fields
plain_asked : (user word : List ℕ) (gs : List Grammar) (ts : List (List ℕ)) → IsPlain word → AllByRecursion AcceptsPlain gs → length gs ≤ 4
    → (is_name user && all_read gs ts) ≡ true → IsPlainLine (user ∷ word ∷ ts)
plain_asked user word gs ts plain accepts few e =
    let parts = and_parts (is_name user) (all_read gs ts) e in
    let count = all_read-length gs ts parts.1 in
    plain_line (user ∷ word ∷ ts) (omega arith) (omega (arith, count, few)) (plain_name user parts.0, (plain, all_read-plain gs ts accepts parts.1))

plain_ask : (a : Asked) → is_asked a ≡ true → IsPlainLine (asked_fields a)
plain_ask (asked.Question user q) e =
    let kind = kind_of q in
    plain_asked user.bytes (kind_word kind) (grammars kind) (texts_of q) (word_plain kind) (grammars_plain kind) (few_grammars kind) e
plain_ask (asked.Conditional user kind p printed) e =
    let texts = p.code.bytes ∷ p.serial.bytes ∷ printed.batch.bytes ∷ printed.expiry.bytes ∷ [] in
    let parts = and_parts (is_name user.bytes) (all_read (grammars Upload) texts) e in
    let plain = all_read-plain (grammars Upload) texts (grammars_plain Upload) parts.1 in
    plain_line (asked_fields (asked.Conditional user kind p printed)) (lit≤ tt) (lit≤ tt)
    (plain_name user.bytes parts.0, (word_plain (OfPack kind), (plain.0, (plain.1.0, ((lit≤ tt, lit≤ tt, refl), plain.1.1)))))
plain_ask (asked.Report user c) e =
    plain_asked user.bytes report_word report_grammars (c.bytes ∷ []) (lit≤ tt, lit≤ tt, refl) (plain_code, tt) (lit≤ tt) e

-- the text of a line is made of plain fields
plain_text : (l : Line) → is_line l ≡ true → IsPlainLine (fields l)
plain_text (lines.Ask a) e = plain_ask a.asked (and_parts (is_tag_or_none a.tag) (is_asked a.asked) e).1
plain_text lines.Ping e = plain_line (fields lines.Ping) (lit≤ tt) (lit≤ tt) ((lit≤ tt, lit≤ tt, refl), tt)
plain_text lines.Version e = plain_line (fields lines.Version) (lit≤ tt) (lit≤ tt) ((lit≤ tt, lit≤ tt, refl), tt)
plain_text lines.Help e = plain_line (fields lines.Help) (lit≤ tt) (lit≤ tt) ((lit≤ tt, lit≤ tt, refl), tt)
plain_text lines.Quit e = plain_line (fields lines.Quit) (lit≤ tt) (lit≤ tt) ((lit≤ tt, lit≤ tt, refl), tt)

-- the fields of an ask are fewer than could be kept
few_asked : (user : List ℕ) (gs : List Grammar) (ts : List (List ℕ)) → length gs ≤ 4 → (is_name user && all_read gs ts) ≡ true → length ts ≤ 4
few_asked user gs ts few e =
    let count = all_read-length gs ts (and_parts (is_name user) (all_read gs ts) e).1 in
    omega (arith, count, few)

few_asked_fields : (a : Asked) → is_asked a ≡ true → length (asked_fields a) < 8
few_asked_fields (asked.Question user q) e =
    let few = few_asked user.bytes (grammars (kind_of q)) (texts_of q) (few_grammars (kind_of q)) e in omega (arith, few)
few_asked_fields (asked.Conditional user kind p printed) e = lit≤ tt
few_asked_fields (asked.Report user c) e = lit≤ tt

few_fields : (l : Line) → is_line l ≡ true → length (fields l) < 8
few_fields (lines.Ask a) e = few_asked_fields a.asked (and_parts (is_tag_or_none a.tag) (is_asked a.asked) e).1
few_fields lines.Ping e = lit≤ tt
few_fields lines.Version e = lit≤ tt
few_fields lines.Help e = lit≤ tt
few_fields lines.Quit e = lit≤ tt

-- the word of a report is that of no kind of question
not_report : (kind : QuestionKind) → kind_word kind ≢ report_word
not_report kind e = let own = kind_named-of_word kind in let same = ap kind_named e in absurd (cc (own, same))

question_or_report : (user user' : Name) (q : Question) (c : ProductCode) → asked_fields (asked.Question user q) ≡ asked_fields (asked.Report user' c) → ⊥
question_or_report user user' q c e = not_report (kind_of q) (ap (λ fs. get_or fs 1 []) e)

-- a question names at most four texts, and so has no values printed on its pack
few_texts : (q : Question) → length (texts_of q) ≤ 4
few_texts (question.Upload p b x) = lit≤ tt
few_texts (question.OfPack _ p) = lit≤ tt
few_texts (question.OfBatch _ c b) = lit≤ tt

question_or_conditional : (user user' : Name) (q : Question) (kind : PackQuestion) (p : Pack) (printed : Printed)
    → asked_fields (asked.Question user q) ≡ asked_fields (asked.Conditional user' kind p printed) → ⊥
question_or_conditional user user' q kind p printed e =
    let count : length (texts_of q) ≡ 5 = ap (λ fs. length (drop 2 fs)) e in absurd (omega (arith, count, few_texts q))

conditional_or_report : (user user' : Name) (kind : PackQuestion) (p : Pack) (printed : Printed) (c : ProductCode)
    → asked_fields (asked.Conditional user kind p printed) ≡ asked_fields (asked.Report user' c) → ⊥
conditional_or_report user user' kind p printed c e = let count : 7 ≡ 3 = ap (λ fs. length fs) e in absurd (omega (arith, count))

ask_or_word : (a : Asked) (word : List ℕ) → asked_fields a ≡ word ∷ [] → ⊥
ask_or_word (asked.Question user q) word e = let empty = ap (λ fs. drop 1 fs) e in cc
ask_or_word (asked.Conditional user kind p printed) word e = let empty = ap (λ fs. drop 1 fs) e in cc
ask_or_word (asked.Report user c) word e = let empty = ap (λ fs. drop 1 fs) e in cc

-- the first byte of fields
abbrev first_byte : List (List ℕ) → ℕ
first_byte fs = get_or (get_or fs 0 []) 0 0

-- different asks have different fields
same_ask : (a b : Asked) → asked_fields a ≡ asked_fields b → a ≡ b
same_ask (asked.Question user q) (asked.Question user' q') e =
    let name : user ≡ user' = ap (λ fs. written (get_or fs 0 [])) e in
    let same = same_question q q' (kind_word-one (kind_of q) (kind_of q') (ap (λ fs. get_or fs 1 []) e)) (ap (λ fs. drop 2 fs) e) in
    λ i. asked.Question (name i) (same i)
same_ask (asked.Conditional user kind p printed) (asked.Conditional user' kind' p' printed') e =
    let name : user ≡ user' = ap (λ fs. written (get_or fs 0 [])) e in
    let word = kind_word-one (OfPack kind) (OfPack kind') (ap (λ fs. get_or fs 1 []) e) in
    let same : kind ≡ kind' = cc word in
    let code : p.code ≡ p'.code = ap (λ fs. written (get_or fs 2 [])) e in
    let serial : p.serial ≡ p'.serial = ap (λ fs. written (get_or fs 3 [])) e in
    let batch : printed.batch ≡ printed'.batch = ap (λ fs. written (get_or fs 5 [])) e in
    let expiry : printed.expiry ≡ printed'.expiry = ap (λ fs. written (get_or fs 6 [])) e in
    λ i. asked.Conditional (name i) (same i) (record { code = code i; serial = serial i }) (record { batch = batch i; expiry = expiry i })
same_ask (asked.Report user c) (asked.Report user' c') e =
    let name : user ≡ user' = ap (λ fs. written (get_or fs 0 [])) e in
    let code : c ≡ c' = ap (λ fs. written (get_or fs 2 [])) e in
    λ i. asked.Report (name i) (code i)
same_ask (asked.Question user q) (asked.Conditional user' kind p printed) e = absurd (question_or_conditional user user' q kind p printed e)
same_ask (asked.Conditional user kind p printed) (asked.Question user' q) e = absurd (question_or_conditional user' user q kind p printed (sym e))
same_ask (asked.Conditional user kind p printed) (asked.Report user' c) e = absurd (conditional_or_report user user' kind p printed c e)
same_ask (asked.Report user c) (asked.Conditional user' kind p printed) e = absurd (conditional_or_report user' user kind p printed c (sym e))
same_ask (asked.Question user q) (asked.Report user' c) e = absurd (question_or_report user user' q c e)
same_ask (asked.Report user c) (asked.Question user' q) e = absurd (question_or_report user' user q c (sym e))

same_line : (l m : Line) → line_tag l ≡ line_tag m → fields l ≡ fields m → l ≡ m
same_line (lines.Ask a) (lines.Ask b) g e = let same = same_ask a.asked b.asked e in λ i. lines.Ask (record { tag = g i; asked = same i })
same_line (lines.Ask a) lines.Ping g e = absurd (ask_or_word a.asked (codes "PING") e)
same_line (lines.Ask a) lines.Version g e = absurd (ask_or_word a.asked (codes "VERSION") e)
same_line (lines.Ask a) lines.Help g e = absurd (ask_or_word a.asked (codes "HELP") e)
same_line (lines.Ask a) lines.Quit g e = absurd (ask_or_word a.asked (codes "QUIT") e)
same_line lines.Ping (lines.Ask a) g e = absurd (ask_or_word a.asked (codes "PING") (sym e))
same_line lines.Ping lines.Ping g e = refl
same_line lines.Ping lines.Version g e = let n : 80 ≡ 86 = ap first_byte e in absurd (omega (arith, n))
same_line lines.Ping lines.Help g e = let n : 80 ≡ 72 = ap first_byte e in absurd (omega (arith, n))
same_line lines.Ping lines.Quit g e = let n : 80 ≡ 81 = ap first_byte e in absurd (omega (arith, n))
same_line lines.Version (lines.Ask a) g e = absurd (ask_or_word a.asked (codes "VERSION") (sym e))
same_line lines.Version lines.Ping g e = let n : 86 ≡ 80 = ap first_byte e in absurd (omega (arith, n))
same_line lines.Version lines.Version g e = refl
same_line lines.Version lines.Help g e = let n : 86 ≡ 72 = ap first_byte e in absurd (omega (arith, n))
same_line lines.Version lines.Quit g e = let n : 86 ≡ 81 = ap first_byte e in absurd (omega (arith, n))
same_line lines.Help (lines.Ask a) g e = absurd (ask_or_word a.asked (codes "HELP") (sym e))
same_line lines.Help lines.Ping g e = let n : 72 ≡ 80 = ap first_byte e in absurd (omega (arith, n))
same_line lines.Help lines.Version g e = let n : 72 ≡ 86 = ap first_byte e in absurd (omega (arith, n))
same_line lines.Help lines.Help g e = refl
same_line lines.Help lines.Quit g e = let n : 72 ≡ 81 = ap first_byte e in absurd (omega (arith, n))
same_line lines.Quit (lines.Ask a) g e = absurd (ask_or_word a.asked (codes "QUIT") (sym e))
same_line lines.Quit lines.Ping g e = let n : 81 ≡ 80 = ap first_byte e in absurd (omega (arith, n))
same_line lines.Quit lines.Version g e = let n : 81 ≡ 86 = ap first_byte e in absurd (omega (arith, n))
same_line lines.Quit lines.Help g e = let n : 81 ≡ 72 = ap first_byte e in absurd (omega (arith, n))
same_line lines.Quit lines.Quit g e = refl

-- a text that begins with a name begins with no tag
named_untagged : (user rest : List ℕ) → is_name user ≡ true → tag_of (user ++ rest) ≡ None
named_untagged [] rest e = absurd (cc e)
named_untagged (c ∷ cs) rest e = no_tag c (cs ++ rest) (alphanumeric_name c cs e)

asked_untagged : (a : Asked) → is_asked a ≡ true → tag_of (line_of_fields (asked_fields a)) ≡ None
asked_untagged (asked.Question user q) e =
    named_untagged user.bytes (32 ∷ line_of_fields (kind_word (kind_of q) ∷ texts_of q)) (and_parts (is_name user.bytes) _ e).0
asked_untagged (asked.Conditional user kind p printed) e =
    named_untagged user.bytes
    (32 ∷ line_of_fields (kind_word (OfPack kind) ∷ p.code.bytes ∷ p.serial.bytes ∷ if_word ∷ printed.batch.bytes ∷ printed.expiry.bytes ∷ []))
    (and_parts (is_name user.bytes) _ e).0
asked_untagged (asked.Report user c) e = named_untagged user.bytes (32 ∷ line_of_fields (report_word ∷ c.bytes ∷ [])) (and_parts (is_name user.bytes) _ e).0

ask_tag : (g : Option Tag) (a : Asked) → is_tag_or_none g ≡ true → is_asked a ≡ true → tag_of (tag_text g ++ line_of_fields (asked_fields a)) ≡ g
ask_tag None a tag e = asked_untagged a e
ask_tag (Some g) a tag e = tag_back g (line_of_fields (asked_fields a)) tag

ping_untagged : tag_of (line_text lines.Ping) ≡ None
unfolding tag_of
ping_untagged = refl

version_untagged : tag_of (line_text lines.Version) ≡ None
unfolding tag_of
version_untagged = refl

help_untagged : tag_of (line_text lines.Help) ≡ None
unfolding tag_of
help_untagged = refl

quit_untagged : tag_of (line_text lines.Quit) ≡ None
unfolding tag_of
quit_untagged = refl

-- the text of a line begins with its tag
pub text_tag : (l : Line) → is_line l ≡ true → tag_of (line_text l) ≡ line_tag l
text_tag (lines.Ask a) e = let parts = and_parts (is_tag_or_none a.tag) (is_asked a.asked) e in ask_tag a.tag a.asked parts.0 parts.1
text_tag lines.Ping e = ping_untagged
text_tag lines.Version e = version_untagged
text_tag lines.Help e = help_untagged
text_tag lines.Quit e = quit_untagged

behind : (l : Line) → drop (length (tag_text (line_tag l))) (line_text l) ≡ line_of_fields (fields l)
behind l = drop_at (tag_text (line_tag l)) (line_of_fields (fields l)) (length (tag_text (line_tag l))) refl

-- different lines have different texts
pub one_spelling : OneSpelling
one_spelling l m is_l is_m e =
    let tag : line_tag l ≡ line_tag m = sym (text_tag l is_l) ∙ ap tag_of e ∙ text_tag m is_m in
    let rest : line_of_fields (fields l) ≡ line_of_fields (fields m) = sym (behind l) ∙ (λ i. drop (length (tag_text (tag i))) (e i)) ∙ behind m in
    same_line l m tag (sym (plain_text l is_l).fields ∙ ap fields_in rest ∙ (plain_text m is_m).fields)

short_tag : (g : Option Tag) → is_tag_or_none g ≡ true → length (tag_text g) ≤ 42
short_tag None e = lit≤ tt
short_tag (Some g) e = omega (arith, (plain_tag g.bytes e).1, length-append g.bytes (32 ∷ []))

line_has_tag : (l : Line) → is_line l ≡ true → is_tag_or_none (line_tag l) ≡ true
line_has_tag (lines.Ask a) e = (and_parts (is_tag_or_none a.tag) (is_asked a.asked) e).0
line_has_tag lines.Ping e = refl
line_has_tag lines.Version e = refl
line_has_tag lines.Help e = refl
line_has_tag lines.Quit e = refl

-- no line is too long
pub short_lines : ShortLines
short_lines l e =
    let bound = (plain_text l e).bound in
    let few = few_fields l e in
    omega (arith, bound, few, short_tag (line_tag l) (line_has_tag l e), length-append (tag_text (line_tag l)) (line_of_fields (fields l)))

-- a line is read in one way only
pub one_reading : OneReading
one_reading x (Ok l) (Ok m) r s = ap (λ (line : Line). Ok line) (one_spelling l m r.2 s.2 (sym r.0 ∙ s.0))
one_reading x (Ok l) (Err u) r s = let no = r.1 in absurd (cc (no, s.0))
one_reading x (Err u) (Ok l) r s = let no = s.1 in absurd (cc (no, r.0))
one_reading x (Err u) (Err v) r s =
    let same : Some u.fault ≡ Some v.fault = sym r.0 ∙ s.0 in
    let fault : u.fault ≡ v.fault = cc same in
    let tag : u.tag ≡ v.tag = r.1 ∙ sym s.1 in
    λ i. Err (record { tag = tag i; fault = fault i })

-- fields in their grammars are not misread
all_read-none : (gs : List Grammar) (ts : List (List ℕ)) → all_read gs ts ≡ true → first_misread gs ts ≡ None
all_read-none [] [] e = refl
all_read-none [] (t ∷ ts) e = absurd cc
all_read-none (g ∷ gs) [] e = absurd cc
all_read-none (g ∷ gs) (t ∷ ts) e =
    let parts = and_parts (g.0 t) (all_read gs ts) e in
    (λ i. cond (parts.0 i) (first_misread gs ts) (Some g.1)) ∙ all_read-none gs ts parts.1

same_count : (m n : ℕ) → m ≡ n → (m == n) ≡ true
same_count m n e = grind (arith, nat_tests)

-- if there are as many texts as grammars, and the user is a name, the first misread text has the only fault
texts_fault-whole : (gs : List Grammar) (user : List ℕ) (ts : List (List ℕ)) → length ts ≡ length gs → is_name user ≡ true
    → texts_fault gs user ts ≡ first_misread gs ts
texts_fault-whole gs user ts count name =
    let whole = same_count (length ts) (length gs) count in
    λ i. cond (not (whole i)) (Some fault.Fields) (cond (not (name i)) (Some fault.User) (first_misread gs ts))

texts_fault-none : (gs : List Grammar) (user : List ℕ) (ts : List (List ℕ)) → (is_name user && all_read gs ts) ≡ true → texts_fault gs user ts ≡ None
texts_fault-none gs user ts e =
    let parts = and_parts (is_name user) (all_read gs ts) e in
    texts_fault-whole gs user ts (all_read-length gs ts parts.1) parts.0 ∙ all_read-none gs ts parts.1

-- another word
no_such_word : (word other : List ℕ) → word ≢ other → bytes_eq word other ≡ false
no_such_word word other differs = false_from_ne_true (bytes_eq word other) (λ e. differs ((bytes_eq-Decides word other).0 e))

-- a word that asks for no report
no_report : (word : List ℕ) → word ≢ report_word → bytes_eq word report_word ≡ false
no_report word other = no_such_word word report_word other

-- the fault of a word that asks for no report
pub ask_fault-question : (user word : List ℕ) (ts : List (List ℕ)) → word ≢ report_word → ask_fault user word ts ≡ question_fault user (kind_named word) ts
ask_fault-question user word ts other =
    let no = no_report word other in λ i. cond (no i) (texts_fault report_grammars user ts) (question_fault user (kind_named word) ts)

-- the fault of fields whose second asks for no report
pub asked_fault-question : (fs : List (Bor (List ℕ))) (a : Bor (List ℕ)) → 2 ≤ length fs → (get_or fs 1 a).now ≢ report_word
    → asked_fault (map (λ f. f.now) fs) ≡ question_fault (get_or fs 0 a).now (kind_named (get_or fs 1 a).now) (map (λ f. f.now) (take (length fs - 2) (drop 2 fs)))
asked_fault-question [] a some other = absurd (omega (arith, some))
asked_fault-question (f ∷ []) a some other = absurd (omega (arith, some))
asked_fault-question (f ∷ g ∷ fs) a some other =
    ask_fault-question f.now g.now (map (λ t. t.now) fs) other
    ∙ ap (λ (ts : List (Bor (List ℕ))). question_fault f.now (kind_named g.now) (map (λ t. t.now) ts)) (sym (take_all (length (f ∷ g ∷ fs) - 2) fs (omega arith)))

-- but for five texts, a question about a pack has the fault of two
pack_fault-other : (user : List ℕ) (ts : List (List ℕ)) → length ts ≢ 5 → pack_fault user ts ≡ texts_fault pack_grammars user ts
pack_fault-other user ts other = rw (ne_eqb (length ts) 5 other) refl

-- as many texts as a question names have the fault of its kind
question_fault-whole : (user : List ℕ) (kind : QuestionKind) (ts : List (List ℕ)) → length ts ≡ length (grammars kind)
    → question_fault user (Some kind) ts ≡ texts_fault (grammars kind) user ts
question_fault-whole user Upload ts count = refl
question_fault-whole user (OfPack kind) ts count = pack_fault-other user ts (omega (arith, count))
question_fault-whole user (OfBatch kind) ts count = refl

-- the fields of an ask have no fault
ask_fault-none : (a : Asked) → is_asked a ≡ true → asked_fault (asked_fields a) ≡ None
ask_fault-none (asked.Question user q) e =
    let kind = kind_of q in
    ask_fault-question user.bytes (kind_word kind) (texts_of q) (not_report kind)
    ∙ ap (λ k. question_fault user.bytes k (texts_of q)) (kind_named-of_word kind)
    ∙ question_fault-whole user.bytes kind (texts_of q) (all_read-length (grammars kind) (texts_of q) (and_parts (is_name user.bytes) _ e).1)
    ∙ texts_fault-none (grammars kind) user.bytes (texts_of q) e
ask_fault-none (asked.Conditional user kind p printed) e =
    let word = kind_word (OfPack kind) in
    let texts = p.code.bytes ∷ p.serial.bytes ∷ if_word ∷ printed.batch.bytes ∷ printed.expiry.bytes ∷ [] in
    ask_fault-question user.bytes word texts (not_report (OfPack kind))
    ∙ ap (λ k. question_fault user.bytes k texts) (kind_named-of_word (OfPack kind))
    ∙ texts_fault-none (grammars Upload) user.bytes (p.code.bytes ∷ p.serial.bytes ∷ printed.batch.bytes ∷ printed.expiry.bytes ∷ []) e
ask_fault-none (asked.Report user c) e = texts_fault-none report_grammars user.bytes (c.bytes ∷ []) e

-- nor have they as the fields of a line
same_fault : (a : Asked) → fields_fault (asked_fields a) ≡ asked_fault (asked_fields a)
same_fault (asked.Question user q) = refl
same_fault (asked.Conditional user kind p printed) = refl
same_fault (asked.Report user c) = refl

-- an ask has no fault after its tag
fault_behind-none : (g : Option Tag) (a : Asked) → is_tag_or_none g ≡ true → is_asked a ≡ true
    → length (tag_text g ++ line_of_fields (asked_fields a)) ≤ 200 → fault_behind g (tag_text g ++ line_of_fields (asked_fields a)) ≡ None
fault_behind-none None a tag e short =
    line_fault-plain fault.Long (byte_fault (line_of_fields (asked_fields a))) fault.Fields fields_fault (asked_fields a) (plain_ask a e) ∙ same_fault a ∙ ask_fault-none a e
fault_behind-none (Some g) a tag e short =
    let whole = tag_text (Some g) ++ line_of_fields (asked_fields a) in
    let fits = not_long (length whole) short in
    (λ i. cond (fits i) (Some fault.Long) (line_fault fault.Long (byte_fault (behind_text g (line_of_fields (asked_fields a)) i)) fault.Fields asked_fault (behind_text g (line_of_fields (asked_fields a)) i)))
    ∙ line_fault-plain fault.Long (byte_fault (line_of_fields (asked_fields a))) fault.Fields asked_fault (asked_fields a) (plain_ask a e) ∙ ask_fault-none a e

line_fault-none : (l : Line) → is_line l ≡ true → fault_behind (line_tag l) (line_text l) ≡ None
line_fault-none (lines.Ask a) e =
    let parts = and_parts (is_tag_or_none a.tag) (is_asked a.asked) e in
    fault_behind-none a.tag a.asked parts.0 parts.1 (short_lines (lines.Ask a) e)
line_fault-none lines.Ping e = refl
line_fault-none lines.Version e = refl
line_fault-none lines.Help e = refl
line_fault-none lines.Quit e = refl

-- the text of a line has no fault
pub first_fault-text : (l : Line) → is_line l ≡ true → first_fault (line_text l) ≡ None
unfolding first_fault
first_fault-text l e = ap (λ (g : Option Tag). fault_behind g (line_text l)) (text_tag l e) ∙ line_fault-none l e

-- the text of a line is read as that line
pub each_is_read : EachIsRead
each_is_read l e = (refl, first_fault-text l e, e)

-- a text without a tag is read as a line, or with a fault, if its fields are
pub reads_fields : (x : List ℕ) (fs : List (List ℕ)) (r : Result Line Unread) → tag_of x ≡ None → fs ≡ take 10 (fields_in x) → fields_fault fs ≡ fault_behind None x
    → IfOk r (λ l. line_tag l ≡ None) → IfOk r (λ l. fields l ≡ fs) → IfOk r (λ l. IsTrue (is_line l))
    → MatchResult r (λ _. fields_fault fs ≡ None) (λ u. (fields_fault fs ≡ Some u.fault) × (u.tag ≡ None)) → ReadsLine x r
unfolding first_fault
reads_fields x fs (Ok l) none kept same_fault untagged same valid fault = (
  line_of_kept x (fields l) (sym (same ∙ kept)) (omega (arith, few_fields l valid)) ∙ ap (λ (g : Option Tag). tag_text g ++ line_of_fields (fields l)) (sym untagged),
  ap (λ (g : Option Tag). fault_behind g x) none ∙ sym same_fault ∙ fault,
  valid,
)
reads_fields x fs (Err u) none kept same_fault untagged same valid fault = (
  ap (λ (g : Option Tag). fault_behind g x) none ∙ sym same_fault ∙ fault.0,
  fault.1 ∙ sym none,
)

-- the text after a tag is the text of the ask that its fields are read as
pub reads_asked : (x : List ℕ) (fs : List (List ℕ)) (r : Result Asked LineFault) → fs ≡ take 10 (fields_in x) → IfOk r (λ a. asked_fields a ≡ fs)
    → IfOk r (λ a. IsTrue (is_asked a)) → IfOk r (λ a. x ≡ line_of_fields (asked_fields a))
reads_asked x fs (Ok a) kept same valid = line_of_kept x (asked_fields a) (sym (same ∙ kept)) (omega (arith, few_asked_fields a valid))
reads_asked x fs (Err f) kept same valid = tt

-- a line is its tag and the ask that is read after it
pub reads_tagged : (x : List ℕ) (g : Tag) (y : List ℕ) (a : Asked) → tag_of x ≡ Some g → y ≡ behind_tag g x → y ≡ line_of_fields (asked_fields a) → IsTrue (is_asked a)
    → None ≡ asked_line_fault (length x) y → ReadsLine x (Ok (lines.Ask (record { tag = Some g; asked = a })))
unfolding first_fault
reads_tagged x g y a tag behind text valid fault =
    let shown = tag_shown x g tag in (
      shown.0 ∙ ap (λ (t : List ℕ). tag_text (Some g) ++ t) (sym behind ∙ text),
      ap (λ (h : Option Tag). fault_behind h x) tag ∙ ap (asked_line_fault (length x)) (sym behind) ∙ sym fault,
      λ i. shown.1 i && valid i,
    )

-- too many texts are too many, whatever number is kept
wrong_count : (gs : List Grammar) (user : List ℕ) (ts : List (List ℕ)) → length ts ≢ length gs → texts_fault gs user ts ≡ Some fault.Fields
wrong_count gs user ts ne = rw (ne_eqb (length ts) (length gs) ne) refl

texts_fault-take : (gs : List Grammar) (user : List ℕ) (ts : List (List ℕ)) → length gs ≤ 4 → texts_fault gs user (take 8 ts) ≡ texts_fault gs user ts
texts_fault-take gs user ts few = elim (cases_lt 8 (length ts)) [
  | inr short ↦ ap (texts_fault gs user) (take_all 8 ts short)
  | inl long ↦
      let kept = length-take 8 ts in
      wrong_count gs user (take 8 ts) (omega arith) ∙ sym (wrong_count gs user ts (omega arith))
]

pack_fault-take : (user : List ℕ) (ts : List (List ℕ)) → pack_fault user (take 8 ts) ≡ pack_fault user ts
pack_fault-take user ts = elim (cases_lt 8 (length ts)) [
  | inr short ↦ ap (pack_fault user) (take_all 8 ts short)
  | inl long ↦
      let kept = length-take 8 ts in
      pack_fault-other user (take 8 ts) (omega arith) ∙ texts_fault-take pack_grammars user ts (lit≤ tt) ∙ sym (pack_fault-other user ts (omega arith))
]

question_fault-take : (user : List ℕ) (kind : Option QuestionKind) (ts : List (List ℕ)) → question_fault user kind (take 8 ts) ≡ question_fault user kind ts
question_fault-take user None ts = refl
question_fault-take user (Some Upload) ts = texts_fault-take (grammars Upload) user ts (lit≤ tt)
question_fault-take user (Some (OfPack kind)) ts = pack_fault-take user ts
question_fault-take user (Some (OfBatch kind)) ts = texts_fault-take (grammars (OfBatch kind)) user ts (lit≤ tt)

-- the kept fields of a line have the fault of all its fields
pub asked_fault-take : (fs : List (List ℕ)) → asked_fault (take 10 fs) ≡ asked_fault fs
asked_fault-take [] = refl
asked_fault-take (word ∷ []) = refl
asked_fault-take (user ∷ word ∷ ts) =
    λ i. cond (bytes_eq word report_word) (texts_fault-take report_grammars user ts (lit≤ tt) i) (question_fault-take user (kind_named word) ts i)

pub fields_fault-take : (fs : List (List ℕ)) → fields_fault (take 10 fs) ≡ fields_fault fs
fields_fault-take [] = refl
fields_fault-take (word ∷ []) = refl
fields_fault-take (user ∷ word ∷ ts) = asked_fault-take (user ∷ word ∷ ts)

-- no fault of a report whose product code is read
pub no_report_fault : (user : List ℕ) (ts : List (Bor (List ℕ))) (a : Bor (List ℕ)) → 1 ≤ length ts → length ts < 2 → is_name user ≡ true
    → is_product_code (get_or ts 0 a).now ≡ true → None ≡ texts_fault report_grammars user (map (λ t. t.now) ts)
no_report_fault user ts a least most name code =
    let text = (get_or ts 0 a).now in
    sym (ap (texts_fault report_grammars user) (one ts a least most) ∙ texts_fault-whole report_grammars user (text ∷ []) refl name
    ∙ (λ i. cond (code i) None (Some fault.Code)))

-- fewer than two fields ask nothing
pub asked_fault-few : (fs : List (List ℕ)) → length fs < 2 → asked_fault fs ≡ Some fault.Fields
asked_fault-few [] few = refl
asked_fault-few (f ∷ []) few = refl
asked_fault-few (f ∷ g ∷ fs) few = absurd (omega (arith, few))

-- one field alone that is none of the words that stand alone
pub other_word_fault : (ts : List (Bor (List ℕ))) (a : Bor (List ℕ)) → 1 ≤ length ts → length ts < 2 → (get_or ts 0 a).now ≢ codes "PING"
    → (get_or ts 0 a).now ≢ codes "VERSION" → (get_or ts 0 a).now ≢ codes "HELP" → (get_or ts 0 a).now ≢ codes "QUIT" → fields_fault (map (λ t. t.now) ts) ≡ Some fault.Fields
other_word_fault ts a least most no_ping no_version no_help no_quit =
    let word = (get_or ts 0 a).now in
    let ping = no_such_word word (codes "PING") no_ping in
    let version = no_such_word word (codes "VERSION") no_version in
    let help = no_such_word word (codes "HELP") no_help in
    let quit = no_such_word word (codes "QUIT") no_quit in
    ap fields_fault (one ts a least most) ∙ (λ i. cond (ping i || version i || help i || quit i) None (Some fault.Fields))
