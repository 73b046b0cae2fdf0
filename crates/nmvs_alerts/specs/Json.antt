-- Members of objects of JSON (RFC 8259), without blanks.
use Rattle.std.specs.Prelude.{ℕ, List, [], ◌∷◌, ◌++◌, codes, decimal}
use Rattle.std.specs.List.{flat_map}
use Rattle.nmvs_line.specs.Line.{quoted}

-- a comma, and the name of a member
unfoldable pub named : List ℕ → List ℕ
named name = codes ",\"" ++ (name ++ codes "\":")

unfoldable pub text_member : List ℕ → List ℕ → List ℕ
text_member name text = named name ++ quoted text

unfoldable pub number_member : List ℕ → ℕ → List ℕ
number_member name n = named name ++ decimal n

-- a comma and a text
abbrev pub led : {A : Type 0} → (A → List ℕ) → A → List ℕ
led text a = 44 ∷ text a

-- the texts of these, with a comma between them
abbrev pub joined : {A : Type 0} → (A → List ℕ) → List A → List ℕ
joined text [] = []
joined text (a ∷ others) = text a ++ flat_map (led text) others
