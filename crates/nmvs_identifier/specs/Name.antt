-- A name of a user, an authorisation or a premises: 1 to 20 characters, of which the first is a letter or a digit.
use Rattle.std.specs.Prelude.{ℕ, Bool, false, List, [], ◌∷◌, length, nat_le, ◌&&◌}
use Rattle.std.specs.List.{list_all}
use Rattle.std.specs.Char.{is_ascii_alphanumeric}
use Rattle.nmvs_identifier.specs.Characters.{is_name_character}
use Rattle.nmvs_identifier.specs.Texts.{Text, longest_text}

-- the model of a name
abbrev pub Name : Type 0
Name = Text

-- whether a text begins with a letter or a digit
abbrev pub begins_alphanumeric : List ℕ → Bool
begins_alphanumeric [] = false
begins_alphanumeric (c ∷ cs) = is_ascii_alphanumeric c

-- whether the characters of a text are those of a name
abbrev pub has_name_characters : List ℕ → Bool
has_name_characters t = begins_alphanumeric t && list_all is_name_character t

-- whether a text is a name
abbrev pub is_name : List ℕ → Bool
is_name t = nat_le 1 (length t) && nat_le (length t) longest_text && has_name_characters t
