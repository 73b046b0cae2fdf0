-- The tag in front of a line and of its reply (own).
use Rattle.std.specs.Prelude.{ℕ, List, [], ◌∷◌, ◌++◌, Option, Some, None}
use Rattle.nmvs_identifier.specs.Tag.{Tag}

-- the bytes before a line with a tag, and before its reply: #, the tag and a space
abbrev pub tag_text : Option Tag → List ℕ
tag_text None = []
tag_text (Some g) = 35 ∷ g.bytes ++ 32 ∷ []
