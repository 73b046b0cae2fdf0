-- A line begins with its tag.
use Rattle.std.proofs.Common.{◌≡◌, ◌≢◌, ◌<◌, ◌≤◌, ◌+◌, ◌-◌, ◌==◌, ◌&&◌, ◌++◌, ◌∷◌, [], ℕ, nat_le, Bool, true, false, true≢false, List, length, take, drop, min, get_or, slice_index, add-one, Option, Some, None, refl, sym, ap, ◌∙◌, subst, cond, lit≤, arith}
use Rattle.std.proofs.lemmas.Bool.{and_parts, eqb-true, false_from_ne_true}
use Rattle.std.proofs.lemmas.List.{take_all, take_min, take-append-drop, take-take, append_assoc, length-append, length-drop, length-take-le, drop_at, get_or-take, get_or_default}
use Rattle.std.proofs.Math.Seq.{drop-cons}
use Rattle.std.proofs.lemmas.List.Elements.{All-from_recursion}
use Rattle.std.proofs.lemmas.List.Splits.{join_with_byte-slice_split, slice_split_at, slice_split_none, length-slice_split}
use Rattle.std.proofs.Math.Seq.{take-append-add}
use Rattle.nmvs_identifier.specs.Tag.{Tag, is_tag}
use Rattle.std.specs.List.{list_all}
use Rattle.std.specs.Str.{IsUtf8}
use Rattle.std.specs.Char.{is_ascii_alphanumeric}
use Rattle.nmvs_identifier.specs.Characters.{is_name_character}
use Rattle.nmvs_identifier.specs.Name.{is_name, has_name_characters}
use Rattle.nmvs_identifier.specs.Texts.{longest_text}
use Rattle.nmvs_identifier.proofs.PlainTexts.{is_plain, plain_tag, all_weaker}
use Rattle.nmvs_messages.specs.Fields.{fields_in, is_printable, is_space, line_of_fields}
use Rattle.nmvs_messages.specs.Tags.{tag_text}
use Rattle.nmvs_protocol.specs.Tags.{tag_named, first_tag, tag_of, behind_tag}
use Rattle.nmvs_messages.specs.PendingLines.{kept_part}
use Rattle.nmvs_messages.proofs.PlainLemmas.{no_space, plain_printable}
use Rattle.nmvs_messages.proofs.FieldLemmas.{printable-utf8}

-- the kept part of a line begins with its tag
pub tag_kept : (x : List ℕ) → tag_of (kept_part x) ≡ tag_of x
unfolding tag_of
tag_kept x = ap (λ (t : List ℕ). first_tag (fields_in t)) (take-take 42 201 x (lit≤ tt))

-- the field of a tag
named : (f : List ℕ) (g : Tag) → tag_named f ≡ Some g → (f ≡ 35 ∷ g.bytes) × (is_tag g.bytes ≡ true)
named [] g e = absurd (cc e)
named (b ∷ bs) g e = by (b == 35 && is_tag bs) refl e
  where
    by : (c : Bool) → (b == 35 && is_tag bs) ≡ c → cond c (Some (record { bytes = bs })) None ≡ Some g → (b ∷ bs ≡ 35 ∷ g.bytes) × (is_tag g.bytes ≡ true)
    by false c e = absurd (cc e)
    by true c e =
        let parts = and_parts (b == 35) (is_tag bs) c in
        let same : bs ≡ g.bytes = cc e in
        ((λ i. eqb-true b 35 parts.0 i ∷ same i), subst (λ (t : List ℕ). is_tag t ≡ true) same parts.1)

first_named : (fs : List (List ℕ)) (g : Tag) → first_tag fs ≡ Some g → (more : List ℕ) × (is_tag g.bytes ≡ true) × (line_of_fields fs ≡ tag_text (Some g) ++ more)
first_named [] g e = absurd (cc e)
first_named (f ∷ []) g e = absurd (cc e)
first_named (f ∷ next ∷ fs) g e =
    let is = named f g e in
    (line_of_fields (next ∷ fs), is.1, ap (λ (t : List ℕ). t ++ 32 ∷ line_of_fields (next ∷ fs)) is.0 ∙ sym (append_assoc (35 ∷ g.bytes) (32 ∷ []) (line_of_fields (next ∷ fs))))

-- a line that begins with a tag is its text and the bytes after it
pub tag_shown : (x : List ℕ) (g : Tag) → tag_of x ≡ Some g → (x ≡ tag_text (Some g) ++ behind_tag g x) × (is_tag g.bytes ≡ true)
unfolding tag_of
tag_shown x g e =
    let front = take 42 x in
    let named = first_named (fields_in front) g e in
    let whole : x ≡ tag_text (Some g) ++ (named.0 ++ drop 42 x) =
    sym (take-append-drop 42 x) ∙ ap (λ (t : List ℕ). t ++ drop 42 x) (sym (join_with_byte-slice_split 32 front) ∙ named.2) ∙ append_assoc (tag_text (Some g)) named.0 (drop 42 x) in
    let rest : behind_tag g x ≡ named.0 ++ drop 42 x = ap (behind_tag g) whole ∙ drop_at (tag_text (Some g)) (named.0 ++ drop 42 x) (length (tag_text (Some g))) refl in
    (whole ∙ ap (λ (t : List ℕ). tag_text (Some g) ++ t) (sym rest), named.1)

-- the bytes after the text of a tag are those that follow it
pub behind_text : (g : Tag) (y : List ℕ) → behind_tag g (tag_text (Some g) ++ y) ≡ y
behind_text g y = drop_at (tag_text (Some g)) y (length (tag_text (Some g))) refl

pub some_field : (x : List ℕ) → fields_in x ≢ []
some_field x none = let n = length-slice_split is_space x in let m = ap (λ (fs : List (List ℕ)). length fs) none in absurd (omega (arith, n, m))

pub first_of : (f : List ℕ) (fs : List (List ℕ)) → fs ≢ [] → first_tag (f ∷ fs) ≡ tag_named f
first_of f [] some = absurd (some refl)
first_of f (next ∷ fs) some = refl

-- the text of a tag begins with it
pub tag_back : (g : Tag) (y : List ℕ) → is_tag g.bytes ≡ true → tag_of (tag_text (Some g) ++ y) ≡ Some g
unfolding tag_of
tag_back g y e =
    let plain = plain_tag g.bytes e in
    let front : List ℕ = 35 ∷ g.bytes in
    let room = 40 - length g.bytes in
    let long : length (tag_text (Some g)) + room ≡ 42 = omega (arith, plain.1, length-append g.bytes (32 ∷ [])) in
    let window : take 42 (tag_text (Some g) ++ y) ≡ front ++ 32 ∷ take room y =
    ap (λ (n : ℕ). take n (tag_text (Some g) ++ y)) (sym long) ∙ take-append-add (tag_text (Some g)) y room ∙ append_assoc front (32 ∷ []) (take room y) in
    let split = slice_split_at is_space front 32 (take room y) (All-from_recursion (λ b. is_space b ≡ false) front (refl, no_space g.bytes plain.2)) refl in
    ap (λ (t : List ℕ). first_tag (fields_in t)) window ∙ ap first_tag split ∙ first_of front (fields_in (take room y)) (some_field (take room y))
    ∙ (λ i. cond (e i) (Some g) None)

-- a name begins with no #
pub alphanumeric_name : (c : ℕ) (cs : List ℕ) → is_name (c ∷ cs) ≡ true → c ≢ 35
alphanumeric_name c cs e is =
    let halves = and_parts (nat_le 1 (length (c ∷ cs)) && nat_le (length (c ∷ cs)) longest_text) (has_name_characters (c ∷ cs)) e in
    let characters = and_parts (is_ascii_alphanumeric c) (list_all is_name_character (c ∷ cs)) halves.1 in
    let no : is_ascii_alphanumeric 35 ≡ false = refl in
    true≢false (sym characters.0 ∙ ap is_ascii_alphanumeric is ∙ no)

-- a text that begins with another character begins with no tag
pub no_tag : (b : ℕ) (bs : List ℕ) → b ≢ 35 → tag_of (b ∷ bs) ≡ None
no_tag b bs other = by (tag_of (b ∷ bs)) refl
  where
    by : (r : Option Tag) → tag_of (b ∷ bs) ≡ r → r ≡ None
    by None e = refl
    by (Some g) e = let is = (tag_shown (b ∷ bs) g e).0 in absurd (other (cc is))

-- a line without # in front begins with no tag
pub unmarked : (x : List ℕ) → get_or x 0 0 ≢ 35 → tag_of x ≡ None
unfolding tag_of
unmarked [] other = refl
unmarked (b ∷ bs) other = no_tag b bs other

-- an empty line begins with no tag
pub empty_untagged : (x : List ℕ) → length x ≡ 0 → tag_of x ≡ None
empty_untagged [] none = unmarked [] (λ e. absurd (omega (arith, e)))
empty_untagged (b ∷ bs) none = absurd (omega (arith, none))

-- a line begins with the tag of its first field
pub cut_first : (line field behind : List ℕ) (n : ℕ) → n ≡ min 42 (length line) → fields_in (take n line) ≡ field ∷ fields_in behind → tag_of line ≡ tag_named field
unfolding tag_of
cut_first line field behind n is cut =
    let window : take 42 line ≡ take n line = sym (take_min 42 line) ∙ ap (λ (k : ℕ). take k line) (sym is) in
    ap (λ (t : List ℕ). first_tag (fields_in t)) window ∙ ap first_tag cut ∙ first_of field (fields_in behind) (some_field behind)

-- a line that begins with one field alone begins with no tag
pub cut_none : (line : List ℕ) (n : ℕ) → n ≡ min 42 (length line) → fields_in (take n line) ≡ take n line ∷ [] → tag_of line ≡ None
unfolding tag_of
cut_none line n is one =
    let window : take 42 line ≡ take n line = sym (take_min 42 line) ∙ ap (λ (k : ℕ). take k line) (sym is) in
    ap (λ (t : List ℕ). first_tag (fields_in t)) window ∙ ap first_tag one

-- after the field of a tag and its space come the bytes that follow the tag
pub cut_behind : (line field : List ℕ) (g : Tag) → tag_named field ≡ Some g → take (length line - (length field + 1)) (drop (length field + 1) line) ≡ behind_tag g line
cut_behind line field g e =
    let is = named field g e in
    let front : length field + 1 ≡ length (tag_text (Some g)) = omega (arith, ap (λ (l : List ℕ). length l) is.0, length-append g.bytes (32 ∷ [])) in
    take_all (length line - (length field + 1)) (drop (length field + 1) line) (omega (arith, length-drop (length field + 1) line)) ∙ ap (λ (k : ℕ). drop k line) front

-- a text without a space is one field
pub fields_whole : (t : List ℕ) → ((k : ℕ) → 0 ≤ k → k < length t → (slice_index t k == 32) ≡ true → ⊥) → fields_in t ≡ t ∷ []
fields_whole t none =
    slice_split_none is_space t (λ k d within. false_from_ne_true (is_space (get_or t k d)) (λ e. none k (omega arith) within (ap is_space (get_or_default t k 0 d within) ∙ e)))

-- a text with a space is the bytes before it and the fields after it
pub fields_cut : (t : List ℕ) (n : ℕ) → n < length t → ((k : ℕ) → 0 ≤ k → k < n → (slice_index t k == 32) ≡ true → ⊥) → (slice_index t n == 32) ≡ true
    → fields_in t ≡ take n t ∷ fields_in (take (length t - (n + 1)) (drop (n + 1) t))
fields_cut t n within none at =
    let space : get_or t n 0 ≡ 32 = eqb-true (get_or t n 0) 32 at in
    let long = length-take-le n t (omega (arith, within)) in
    let whole : t ≡ take n t ++ 32 ∷ drop (n + 1) t =
    sym (take-append-drop n t) ∙ ap (λ (r : List ℕ). take n t ++ r) (drop-cons t n 0 within ∙ (λ i. space i ∷ drop (sym (add-one n) i) t)) in
    ap fields_in whole
    ∙ slice_split_at is_space (take n t) 32 (drop (n + 1) t)
    (λ k d before. false_from_ne_true (is_space (get_or (take n t) k d)) (λ e. none k (omega arith) (omega (arith, before, long))
    (ap is_space (get_or_default t k 0 d (omega (arith, before, long, within)) ∙ sym (get_or-take n t k d (omega (arith, before, long)))) ∙ e))) refl
    ∙ ap (λ (r : List ℕ). take n t ∷ fields_in r) (sym (take_all (length t - (n + 1)) (drop (n + 1) t) (omega (arith, length-drop (n + 1) t))))

-- a field that is no text is no tag
pub no_text : (f : List ℕ) → (IsUtf8 (drop 1 f) → ⊥) → tag_named f ≡ None
no_text [] other = refl
no_text (b ∷ bs) other = by (b == 35) (is_tag bs) refl
  where
    by : (c d : Bool) → is_tag bs ≡ d → cond {A = Option Tag} (c && d) (Some (record { bytes = bs })) None ≡ None
    by c true e = absurd (other (printable-utf8 bs (all_weaker is_plain is_printable plain_printable bs (plain_tag bs e).2)))
    by false false e = refl
    by true false e = refl
