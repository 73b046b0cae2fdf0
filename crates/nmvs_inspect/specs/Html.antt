-- Texts and rows of HTML (own). All values of an export stand between tags, escaped or as a number.
use Rattle.std.specs.Prelude.{ℕ, ◌==◌, ◌&&◌, Bool, not, if◌then◌else◌, List, [], ◌∷◌, ◌++◌, codes, decimal}
use Rattle.std.specs.List.{flat_map}

-- the escape of a byte: serial numbers and batches may have these bytes, names and words may not
abbrev pub escape : ℕ → List ℕ
escape b =
    if b == 34 then codes "&quot;" else if b == 38 then codes "&amp;" else if b == 60 then codes "&lt;" else
    if b == 62 then codes "&gt;" else b ∷ []

abbrev pub escaped : List ℕ → List ℕ
escaped t = flat_map escape t

-- whether a byte begins or ends no tag, and no value of one
abbrev pub is_plain : ℕ → Bool
is_plain b = not (b == 34) && not (b == 60) && not (b == 62)

-- the cells of a row: texts, and then numbers
abbrev pub cell : List ℕ → List ℕ
cell t = codes "<td>" ++ (escaped t ++ codes "</td>")

abbrev pub number_cell : ℕ → List ℕ
number_cell n = codes "<td class=n>" ++ (decimal n ++ codes "</td>")

abbrev pub html_row : List (List ℕ) → List ℕ → List ℕ
html_row texts numbers = codes "<tr>" ++ (flat_map cell texts ++ (flat_map number_cell numbers ++ codes "</tr>\n"))
