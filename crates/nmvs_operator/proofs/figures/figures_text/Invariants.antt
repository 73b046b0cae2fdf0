use Rattle.std.proofs.Common.{◌≡◌, take, string_bytes}
use Rattle.nmvs_operator.specs.Figures.{figure_lines}
use Rattle.nmvs_operator.proofs.figures.figures_text.Given as goal

abbrev pub invariant-loop-figure : goal.invariant-loop-figure
invariant-loop-figure l = string_bytes l.text ≡ figure_lines (take l.figure-index l.figures)
