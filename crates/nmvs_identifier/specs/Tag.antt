-- A tag of a line: 1 to 40 characters of a name, so that a UUID is one (own).
use Rattle.std.specs.Prelude.{ℕ, Bool, List, length, nat_le, ◌&&◌}
use Rattle.nmvs_identifier.specs.Name.{has_name_characters}
use Rattle.nmvs_identifier.specs.Texts.{Text}

-- the model of a tag
abbrev pub Tag : Type 0
Tag = Text

-- the most bytes of a tag
abbrev pub longest_tag : ℕ
longest_tag = 40

-- whether a text is a tag
abbrev pub is_tag : List ℕ → Bool
is_tag t = nat_le 1 (length t) && nat_le (length t) longest_tag && has_name_characters t
