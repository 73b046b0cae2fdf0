-- The values of options (own).
use Rattle.std.specs.Prelude.{◌≤◌, ℕ, List, codes}
use Rattle.nmvs_operator.specs.declared.options.Value.{Value}
use Rattle.nmvs_operator.specs.declared.options.Value.TheVariants.{Nothing, Text, Address, Word, Number}

-- an option of this value takes the number
abbrev pub IsIn : Value → ℕ → Type 0
IsIn Nothing n = ⊥
IsIn (Text name) n = ⊥
IsIn Address n = ⊥
IsIn (Word name words) n = ⊥
IsIn (Number least most) n = (least ≤ n) × (n ≤ most)

-- the value as TOML has it
abbrev pub value_text : Value → List ℕ
value_text Nothing = codes "a boolean"
value_text (Text name) = codes "a string"
value_text Address = codes "a string or an integer"
value_text (Word name words) = codes "a string"
value_text (Number least most) = codes "an integer"
