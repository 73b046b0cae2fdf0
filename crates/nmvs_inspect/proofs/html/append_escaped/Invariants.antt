use Rattle.std.proofs.Common.{◌≡◌, ◌++◌, take}
use Rattle.nmvs_inspect.specs.Html.{escaped}
use Rattle.nmvs_inspect.proofs.html.append_escaped.Given as goal

abbrev pub invariant-loop-byte : goal.invariant-loop-byte
invariant-loop-byte l = l.block.items ≡ l.fn.block.items ++ escaped (take l.byte-index l.text)
