use Rattle.std.proofs.Common.{◌≡◌, ◌++◌, take}
use Rattle.std.specs.List.{flat_map}
use Rattle.nmvs_inspect.specs.Html.{number_cell}
use Rattle.nmvs_inspect.proofs.html.append_numbers.Given as goal

abbrev pub invariant-loop-number : goal.invariant-loop-number
invariant-loop-number l = l.block.items ≡ l.fn.block.items ++ flat_map number_cell (take l.number-index l.numbers)
