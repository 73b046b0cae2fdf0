-- The key of a line is cut out of its end.
use Rattle.std.proofs.Common.{◌≡◌, ℕ, Bool, true, List, [], ◌∷◌, ◌++◌, not, ◌==◌, inl, inr, ◌&&◌, length, nat_le, Option, Some, None, refl, sym, ap, ◌∙◌, arith, append_assoc}
use Rattle.std.specs.List.{list_all}
use Rattle.std.specs.Str.{IsAscii, IsUtf8}
use Rattle.std.proofs.lemmas.Bool.{and_parts, cases_eq, ne_eqb}
use Rattle.std.proofs.lemmas.List.Elements.{All-from_recursion}
use Rattle.std.proofs.lemmas.Option.{same_Some}
use Rattle.std.proofs.lemmas.Str.{IsAscii-append, IsUtf8-from_ascii}
use Rattle.std.proofs.lemmas.Str.Ascii.{IsAscii-cons, IsAscii-from_all, IsAscii-nil}
use Rattle.nmvs_identifier.specs.Characters.{is_name_character}
use Rattle.nmvs_identifier.specs.Name.{begins_alphanumeric, has_name_characters}
use Rattle.nmvs_identifier.specs.Tag.{Tag, is_tag, longest_tag}
use Rattle.nmvs_identifier.proofs.PlainTexts.{all_weaker, plain_tag}
use Rattle.nmvs_rules.specs.Entries.{is_tag_or_none}
use Rattle.nmvs_cases.specs.LineParts.{ending}
use Rattle.nmvs_cases.specs.Pieces.{cut}
use Rattle.nmvs_cases.proofs.KeyboardLemmas.{all-small}
use Rattle.nmvs_cases.proofs.PieceLemmas.{cut-at, lacks}

-- a text of characters of which the mark is none has no mark
other-byte : (p : ℕ → Bool) (m : ℕ) → (p m ≡ true → ⊥) → (b : ℕ) → p b ≡ true → not (b == m) ≡ true
other-byte p m none b is =
    elim (cases_eq b m) [
      | inl same ↦ absurd (none (sym (ap p same) ∙ is))
      | inr other ↦ ap not (ne_eqb b m other)
    ]

pub lacks-by : (p : ℕ → Bool) (m : ℕ) → (p m ≡ true → ⊥) → (t : List ℕ) → list_all p t ≡ true → lacks m t ≡ true
lacks-by p m none t is = all_weaker p (λ b. not (b == m)) (other-byte p m none) t is

-- no character of a name is a quotation mark
pub name-characters-lack : (t : List ℕ) → has_name_characters t ≡ true → lacks 34 t ≡ true
name-characters-lack t is = lacks-by is_name_character 34 (λ h. cc h) t (and_parts (begins_alphanumeric t) (list_all is_name_character t) is).1

tag-lacks : (t : List ℕ) → is_tag t ≡ true → lacks 34 t ≡ true
tag-lacks t is = name-characters-lack t (and_parts (nat_le 1 (length t) && nat_le (length t) longest_tag) (has_name_characters t) is).1

-- the end of a line is ASCII
ending-ascii : (k : Option Tag) → is_tag_or_none k ≡ true → IsAscii (93 ∷ ending k)
ending-ascii None is = IsAscii-cons 93 (93 ∷ []) (omega arith) (IsAscii-cons 93 [] (omega arith) IsAscii-nil)
ending-ascii (Some g) is =
    let text = IsAscii-from_all g.bytes (All-from_recursion _ g.bytes (all-small g.bytes (plain_tag g.bytes is).2)) in
    let mark = IsAscii-append g.bytes (34 ∷ []) text (IsAscii-cons 34 [] (omega arith) IsAscii-nil) in
    let none = IsAscii-append (g.bytes ++ 34 ∷ []) [] mark IsAscii-nil in
    let all = IsAscii-append ((g.bytes ++ 34 ∷ []) ++ []) (93 ∷ []) none (IsAscii-cons 93 [] (omega arith) IsAscii-nil) in
    let key : List ℕ = ((g.bytes ++ 34 ∷ []) ++ []) ++ 93 ∷ [] in
    IsAscii-cons 93 (44 ∷ 34 ∷ key) (omega arith) (IsAscii-cons 44 (34 ∷ key) (omega arith) (IsAscii-cons 34 key (omega arith) all))

pub ending-utf8 : (k : Option Tag) → is_tag_or_none k ≡ true → IsUtf8 (93 ∷ ending k)
ending-utf8 k is = IsUtf8-from_ascii (93 ∷ ending k) (ending-ascii k is)

key-begins : (g : Tag) → cut 34 (93 ∷ ending (Some g)) ≡ Some (93 ∷ 44 ∷ [], g.bytes ++ 34 ∷ 93 ∷ [])
key-begins g =
    let tail : ((g.bytes ++ 34 ∷ []) ++ []) ++ 93 ∷ [] ≡ g.bytes ++ 34 ∷ 93 ∷ [] = simp append_assoc in
    ap (λ (s : List ℕ). Some (93 ∷ 44 ∷ [], s)) tail

-- where a text follows a mark in the end of a line, it is the key
pub key-back : (k : Option Tag) (rest before after : List ℕ) → is_tag_or_none k ≡ true → rest ≡ 93 ∷ ending k → Some (before, after) ≡ cut 34 rest
    → (g : Tag) × (k ≡ Some g) × (is_tag g.bytes ≡ true) × (cut 34 after ≡ Some (g.bytes, 93 ∷ []))
key-back None rest before after is same found =
    let none = found ∙ ap (cut 34) same in
    absurd (cc none)
key-back (Some g) rest before after is same found =
    let pairs = same_Some (before, after) (93 ∷ 44 ∷ [], g.bytes ++ 34 ∷ 93 ∷ []) (found ∙ ap (cut 34) same ∙ key-begins g) in
    let key = ap (λ (p : List ℕ × List ℕ). p.1) pairs in
    (g, refl, is, ap (cut 34) key ∙ cut-at 34 g.bytes (93 ∷ []) (tag-lacks g.bytes is))

-- where none follows, there is no key
pub key-none : (k : Option Tag) (rest : List ℕ) → rest ≡ 93 ∷ ending k → None ≡ cut 34 rest → None ≡ k
key-none None rest same none = refl
key-none (Some g) rest same none =
    let some = none ∙ ap (cut 34) same ∙ key-begins g in
    absurd (cc some)
