use Rattle.std.proofs.Common.{◌≡◌, take, map}
use Rattle.nmvs_inspect.specs.Groups.{by_word}
use Rattle.nmvs_inspect.proofs.groups.head_cells.Given as goal

abbrev pub invariant-loop-by : goal.invariant-loop-by
invariant-loop-by l = map (λ c. c.now) l.cells.items ≡ map by_word (take l.by-index l.by)
