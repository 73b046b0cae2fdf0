-- Tables of examples: inputs, each with the value that a definition gives for it.
use Rattle.std.specs.Prelude.{List, map, ◌≡◌}

-- the function gives for the left side of each row its right side
abbrev pub Gives : {A B : Type 0} → (A → B) → List (A × B) → Type 0
Gives f rows = map (λ row. f row.0) rows ≡ map (λ row. row.1) rows
