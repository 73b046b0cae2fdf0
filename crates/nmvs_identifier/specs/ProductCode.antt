-- A product code, application identifier 01: a GTIN-14 (Article 4(b)(i)).
use Rattle.std.specs.Prelude.{ℕ, Bool, List, [], ◌∷◌, length, ◌+◌, ◌*◌, ◌%◌, ◌&&◌, ◌==◌, if◌then◌else◌}
use Rattle.std.specs.List.{list_all}
use Rattle.std.specs.Char.{is_ascii_digit, digit_value}
use Rattle.nmvs_identifier.specs.Texts.{Text}

-- the model of a product code
abbrev pub ProductCode : Type 0
ProductCode = Text

-- the weight of a position, counted from 0 at the left: 3 and 1 in turn
abbrev pub weight : ℕ → ℕ
weight i = if i % 2 == 0 then 3 else 1

-- the sum of each digit times the weight of its position, if the first digit stands at position i
abbrev pub weighted_sum : ℕ → List ℕ → ℕ
weighted_sum i [] = 0
weighted_sum i (d ∷ ds) = weight i * digit_value d + weighted_sum (i + 1) ds

-- whether the last digit checks the others
abbrev pub is_checked : List ℕ → Bool
is_checked t = weighted_sum 0 t % 10 == 0

-- whether a text is a product code
abbrev pub is_product_code : List ℕ → Bool
is_product_code t = (length t == 14) && list_all is_ascii_digit t && is_checked t
