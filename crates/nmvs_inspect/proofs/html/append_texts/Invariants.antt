use Rattle.std.proofs.Common.{◌≡◌, ◌++◌, take, map}
use Rattle.std.specs.List.{flat_map}
use Rattle.nmvs_inspect.specs.Html.{cell}
use Rattle.nmvs_inspect.proofs.html.append_texts.Given as goal

abbrev pub invariant-loop-i : goal.invariant-loop-i
invariant-loop-i l = l.block.items ≡ l.fn.block.items ++ flat_map (λ t. cell t.now) (take l.i l.texts)
