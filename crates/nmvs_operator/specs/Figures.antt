-- The lines of a server's figures for the operator (own).
use Rattle.std.specs.Prelude.{ℕ, List, [], ◌∷◌, codes, decimal}
use Rattle.std.specs.List.{flat_map}
use Rattle.nmvs_words.specs.Words.{spaced}
use Rattle.nmvs_operator.specs.declared.figures.Figure.{Figure}
use Rattle.nmvs_operator.specs.declared.figures.Figure.TheVariants.{Connections, Sessions, Entries, Worker, Alerts}

-- the line of a figure, with LF
abbrev pub figure_line : Figure → List ℕ
figure_line (Connections number) = spaced (codes "CONNECTIONS" ∷ decimal number ∷ [])
figure_line (Sessions number) = spaced (codes "SESSIONS" ∷ decimal number ∷ [])
figure_line (Entries shard number) = spaced (codes "ENTRIES" ∷ decimal shard ∷ decimal number ∷ [])
figure_line (Worker worker number) = spaced (codes "WORKER" ∷ decimal worker ∷ decimal number ∷ [])
figure_line (Alerts user premises number) = spaced (codes "ALERTS" ∷ user.bytes ∷ premises.bytes ∷ decimal number ∷ [])

-- the lines of figures, in their order
abbrev pub figure_lines : List Figure → List ℕ
figure_lines figures = flat_map figure_line figures
