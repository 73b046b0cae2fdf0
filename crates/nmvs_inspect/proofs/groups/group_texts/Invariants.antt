use Rattle.std.proofs.Common.{◌≡◌, take, map}
use Rattle.nmvs_inspect.specs.Groups.{part}
use Rattle.nmvs_inspect.proofs.groups.group_texts.Given as goal

abbrev pub invariant-loop-by : goal.invariant-loop-by
invariant-loop-by l = map (λ t. t.items) l.texts.items ≡ map (part l.group) (take l.by-index l.by)
