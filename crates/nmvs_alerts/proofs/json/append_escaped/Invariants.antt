use Rattle.std.proofs.Common.{◌≡◌, ◌++◌, take}
use Rattle.std.specs.List.{flat_map}
use Rattle.nmvs_line.specs.Line.{escaped}
use Rattle.nmvs_alerts.proofs.json.append_escaped.Given as goal

abbrev pub invariant-loop-byte : goal.invariant-loop-byte
invariant-loop-byte l = l.block.items ≡ l.fn.block.items ++ flat_map escaped (take l.byte-index l.text)
