-- Tags before lines, and before their replies (own).
use Rattle.std.specs.Prelude.{ℕ, List, [], ◌∷◌, length, take, drop, ◌==◌, ◌+◌, ◌&&◌, Option, Some, None, if◌then◌else◌}
use Rattle.nmvs_identifier.specs.Tag.{Tag, is_tag, longest_tag}
use Rattle.nmvs_messages.specs.Fields.{fields_in}
use Rattle.nmvs_messages.specs.Tags.{tag_text}

-- the most bytes that this has
abbrev pub longest_tag_text : ℕ
longest_tag_text = longest_tag + 2

-- the tag of a field that is # and 1 to 40 characters of a name
abbrev pub tag_named : List ℕ → Option Tag
tag_named [] = None
tag_named (b ∷ bs) = if b == 35 && is_tag bs then Some (record { bytes = bs }) else None

-- the tag that these fields begin with: the first of them, if another one follows
abbrev pub first_tag : List (List ℕ) → Option Tag
first_tag (f ∷ next ∷ fs) = tag_named f
first_tag _ = None

-- the tag that a line begins with, if there is one
unfoldable pub tag_of : List ℕ → Option Tag
tag_of x = first_tag (fields_in (take longest_tag_text x))

-- the bytes after the tag and its space
abbrev pub behind_tag : Tag → List ℕ → List ℕ
behind_tag g x = drop (length (tag_text (Some g))) x
