-- The lines of acts on alerts: each act as one line of JSON without blanks (own).
use Rattle.std.specs.Prelude.{ℕ, ◌<◌, ◌^◌, Bool, true, false, ◌==◌, ◌||◌, List, [], ◌∷◌, ◌++◌, codes, decimal, Option, Some, None, IsTrue, IsUtf8, if◌then◌else◌}
use Rattle.std.specs.List.{flat_map}
use Rattle.nmvs_identifier.specs.Moment.{is_moment}
use Rattle.nmvs_identifier.specs.ProductCode.{is_product_code}
use Rattle.nmvs_identifier.specs.Tag.{Tag}
use Rattle.nmvs_rules.specs.Entries.{is_tag_or_none}
use Rattle.nmvs_cases.specs.declared.act.Act.{Act}
use Rattle.nmvs_cases.specs.declared.range.Range.{Range}
use Rattle.nmvs_cases.specs.declared.written_line.WrittenLine.{WrittenLine}
use Rattle.nmvs_cases.specs.ActWords.{act_word, detail_word, has_text, takes}
use Rattle.nmvs_cases.specs.Authors.{author_authorisation, author_premises, author_role, author_user, is_author}
use Rattle.nmvs_cases.specs.Hints.{hinted_word}
use Rattle.nmvs_cases.specs.Texts.{is_case_text}

-- a byte of a string: a quotation mark and a backslash follow a backslash, any other stands for itself
abbrev pub escaped : ℕ → List ℕ
escaped b = if (b == 34) || (b == 92) then 92 ∷ b ∷ [] else b ∷ []

-- a name, a code or a word in quotation marks: it has neither of the two
abbrev pub marked : List ℕ → List ℕ
marked t = 34 ∷ (t ++ 34 ∷ [])

-- any text in quotation marks
abbrev pub quoted : List ℕ → List ℕ
quoted t = marked (flat_map escaped t)

-- items, each after a comma, and an array of a first item and these
abbrev pub led : List (List ℕ) → List ℕ
led [] = []
led (x ∷ xs) = 44 ∷ (x ++ led xs)

abbrev pub array : List ℕ → List (List ℕ) → List ℕ
array x xs = 91 ∷ (x ++ (led xs ++ 93 ∷ []))

-- the product code, the first and the last number, and the hint, `-` or `*`
abbrev pub range_text : Range → List ℕ
range_text r = array (marked r.code.bytes) (decimal r.first ∷ decimal r.last ∷ marked (hinted_word r.hinted) ∷ [])

-- the word of an act, then that of its verdict or of who is informed, then its text
abbrev pub detail_items : Option (List ℕ) → List (List ℕ)
detail_items None = []
detail_items (Some w) = marked w ∷ []

abbrev pub text_items : Bool → List ℕ → List (List ℕ)
text_items false t = []
text_items true t = quoted t ∷ []

abbrev pub act_text : Act → List ℕ → List ℕ
act_text a t = array (marked (act_word a)) (detail_items (detail_word a) ++ text_items (has_text a) t)

-- the key, if there is one
abbrev pub key_items : Option Tag → List (List ℕ)
key_items None = []
key_items (Some k) = marked k.bytes ∷ []

-- the line: the number of the version, the number of entries that were judged, the moment, the author's name, role, authorisation
-- and premises, the range, the act and the key; without LF
unfoldable pub case_text : WrittenLine → List ℕ
case_text w =
    array (codes "1") (
    decimal w.line.at ∷ decimal w.line.moment
    ∷ marked (author_user w.line.author).bytes ∷ marked (author_role w.line.author)
    ∷ marked (author_authorisation w.line.author) ∷ marked (author_premises w.line.author)
    ∷ range_text w.line.range ∷ act_text w.line.act w.text.bytes ∷ key_items w.key
    )

-- the numbers of a line are in their ranges, and its texts in their grammars
pub record IsRanged (w : WrittenLine) : Type 0 where
  pub at : w.line.at < 2 ^ 64
  pub moment : IsTrue (is_moment w.line.moment)
  pub author : IsTrue (is_author w.line.author)
  pub code : IsTrue (is_product_code w.line.range.code.bytes)
  pub first : w.line.range.first < 2 ^ 64
  pub last : w.line.range.last < 2 ^ 64
  pub text : IsTrue (is_case_text w.text.bytes)
  pub key : IsTrue (is_tag_or_none w.key)

-- it is such a line, its text is UTF-8, and the act takes it
pub record IsWritten (w : WrittenLine) : Type 0 where
  pub ranged : IsRanged w
  pub utf8 : IsUtf8 w.text.bytes
  pub taken : IsTrue (takes w.line.act w.text.bytes)

-- the most bytes that a line may have, its LF not among them (own)
abbrev pub longest_case_line : ℕ
longest_case_line = 1200
