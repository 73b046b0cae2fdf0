use Rattle.std.proofs.Common.{◌≡◌, take}
use Rattle.nmvs_inspect.specs.Groups.{parts}
use Rattle.nmvs_inspect.proofs.groups.parts.Given as goal

abbrev pub invariant-loop-by : goal.invariant-loop-by
invariant-loop-by l = l.text.items ≡ parts (take l.by-index l.by) l.found
